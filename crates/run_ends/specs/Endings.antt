-- The endings of a command.
use Rattle.std.specs.Prelude.{◌≡◌, ◌⊎◌, ⊤, Result, Ok, Err}
use Rattle.run_ends.specs.declared.ending.Ending.{Ending}
use Rattle.run_ends.specs.declared.ending.Ending.TheVariants.{Done, WriteFault, Refused}
use Rattle.run_ends.specs.declared.refusal.Refusal.{Refusal}
use Rattle.run_ends.specs.declared.refusal.Refusal.TheVariants.{OutOfMemory}

-- a product that was printed whole, or cut off
abbrev pub ended : {P T E : Type 0} → P → Result T E → Ending P
ended product (Ok done) = Done product
ended product (Err failed) = WriteFault product

-- the product, where one was made, is such
abbrev pub WithProduct : {P : Type 0} → (P → Type 0) → Ending P → Type 0
WithProduct Such (Done product) = Such product
WithProduct Such (WriteFault product) = Such product
WithProduct Such (Refused refusal) = ⊤

-- the refusal, where no product was made, is such
abbrev pub WithRefusal : {P : Type 0} → (Refusal → Type 0) → Ending P → Type 0
WithRefusal Such (Done product) = ⊤
WithRefusal Such (WriteFault product) = ⊤
WithRefusal Such (Refused refusal) = Such refusal

-- the command is refused at most for want of memory
abbrev pub IsForMemory : {P : Type 0} → Ending P → Type 0
IsForMemory ending = WithRefusal (λ refusal. refusal ≡ OutOfMemory) ending

-- the same ending, with another product
abbrev pub ending_of : {P Q : Type 0} → (P → Q) → Ending P → Ending Q
ending_of f (Done product) = Done (f product)
ending_of f (WriteFault product) = WriteFault (f product)
ending_of f (Refused refusal) = Refused refusal

-- the second ending is the first one, with a product that belongs to the first one's
abbrev pub IsMapped : {P Q : Type 0} → (P → Q → Type 0) → Ending P → Ending Q → Type 0
IsMapped {Q = Q} Belongs (Done product) other = (q : Q) × Belongs product q × (other ≡ Done q)
IsMapped {Q = Q} Belongs (WriteFault product) other = (q : Q) × Belongs product q × (other ≡ WriteFault q)
IsMapped Belongs (Refused refusal) other = other ≡ Refused refusal

-- the command was done, or wanted memory
abbrev pub IsDoneOrWant : {P : Type 0} → Ending P → Type 0
IsDoneOrWant {P = P} ending = ((product : P) × (ending ≡ Done product)) ⊎ (ending ≡ Refused OutOfMemory)

-- the command was refused for this, or wanted memory
abbrev pub IsThisOrWant : {P : Type 0} → Refusal → Ending P → Type 0
IsThisOrWant this ending = (ending ≡ Refused this) ⊎ (ending ≡ Refused OutOfMemory)
