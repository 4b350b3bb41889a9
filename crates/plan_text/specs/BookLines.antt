-- The lines of bookings.
use Rattle.std.specs.Prelude.{ℕ, ℤ, ◌==◌, if◌then◌else◌, List, [], ◌∷◌, ◌++◌, codes, decimal}
use Rattle.contact_alloc.specs.declared.bid.Bid.{Bid}
use Rattle.contact_alloc.specs.declared.bid.Contact.{Contact}
use Rattle.pass_text.specs.DayLayout.{tick_text}

-- `BOOK <index> <contacts> <value>`
unfoldable pub book_line : ℕ → ℕ → ℕ → List ℕ
book_line index contacts value =
    codes "BOOK " ++ decimal index ++ codes " " ++ decimal contacts ++ codes " " ++ decimal value ++ codes "\n"

-- `BOOK <index> TOOMANY <contacts>`
unfoldable pub too_many_line : ℕ → ℕ → List ℕ
too_many_line index contacts = codes "BOOK " ++ decimal index ++ codes " TOOMANY " ++ decimal contacts ++ codes "\n"

-- `USE <from> <to> <number> <antenna>`
unfoldable pub use_line : ℤ → Contact → ℕ → List ℕ
use_line start contact antenna =
    codes "USE " ++ tick_text start contact.from ++ codes " " ++ tick_text start contact.to
    ++ codes " " ++ decimal contact.number ++ codes " " ++ decimal antenna ++ codes "\n"

-- `PRICE <from> <to> <price>`
unfoldable pub price_line : ℤ → ℕ → ℕ → ℕ → List ℕ
price_line start from to price =
    codes "PRICE " ++ tick_text start from ++ codes " " ++ tick_text start to ++ codes " " ++ decimal price ++ codes "\n"

-- this line, where the contact has an antenna
abbrev pub use_text : ℤ → Contact → ℕ → List ℕ
use_text start contact antenna = if antenna == 0 then [] else use_line start contact antenna

-- those of contacts with their antennas
abbrev pub use_lines : ℤ → List Bid → List ℕ → List ℕ
use_lines start (bid ∷ bids) (antenna ∷ used) = use_text start bid.contact antenna ++ use_lines start bids used
use_lines start _ _ = []

-- the line of a stretch, where its price is above 0
abbrev pub price_text : ℤ → ℕ → ℕ → ℕ → List ℕ
price_text start from to price = if price == 0 then [] else price_line start from to price

-- those of the stretches between neighbouring ends with their prices
abbrev pub price_lines : ℤ → List ℕ → List ℕ → List ℕ
price_lines start (from ∷ to ∷ rest) (price ∷ prices) =
    price_text start from to price ++ price_lines start (to ∷ rest) prices
price_lines start _ _ = []
