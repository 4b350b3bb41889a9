-- The names of files in requests are parts of the words.
use Rattle.std.proofs.Common.{◌≡◌, ℕ, List, [], ◌∷◌, Result, Ok, Err}
use Rattle.std.specs.Prelude.{IfOk, neg_ℤ, pos}
use Rattle.pass_words.specs.declared.command.Command.{Command}
use Rattle.pass_words.specs.declared.command.Command.TheVariants.{Book, Day, Grid, Locate, Plan, Show}
use Rattle.pass_words.specs.declared.key.Opt.{Opt}
use Rattle.pass_words.specs.declared.key.Opt.TheVariants.{Antennas, At, Catalogue, Count, End, Lat, Lon, Number, Res, Start, Stations}
use Rattle.pass_words.specs.declared.passes.Passes.{Passes}
use Rattle.pass_words.specs.Commands.{keys_of, request_of}
use Rattle.pass_words.specs.Names.{AreFilesIn, AreNamesIn}
use Rattle.pass_words.specs.Passes.{passes_given}
use Rattle.pass_words.specs.Placed.{placed}
use Rattle.pass_words.specs.Places.{Places}
use Rattle.elements.specs.Steps.{◌>>=◌}
use Rattle.pass_words.specs.Values.{degrees_given, instant_given, number_given, part_given, plain_count_given, short_count_given, window_given}
use Rattle.pass_words.proofs.NameLemmas.{key_stands}

-- what holds after a step holds of both steps
after : {A B E : Type 0} (P : B → Type 0) (r : Result A E) (next : A → Result B E) → ((x : A) → IfOk (next x) P) → IfOk (r >>= next) P
after P (Ok x) next h = h x
after P (Err fault) next h = tt

-- the same, where a fact is known of the first step
after_known : {A B E : Type 0} (Q : A → Type 0) (P : B → Type 0) (r : Result A E) (next : A → Result B E) → IfOk r Q → ((x : A) → Q x → IfOk (next x) P) → IfOk (r >>= next) P
after_known Q P (Ok x) next known h = h x known
after_known Q P (Err fault) next known h = tt

-- the files of passes are named by the words
abbrev AreFilesOf : List (List ℕ) → Passes → Type 0
AreFilesOf words passes = AreFilesIn words passes.catalogue passes.stations

passes_names : (rest : List Opt) (words : List (List ℕ)) (places : Places) → placed (Catalogue ∷ Stations ∷ rest) words ≡ Ok places → IfOk (passes_given words places) (AreFilesOf words)
passes_names rest words places e =
    let files : AreFilesIn words (part_given places Catalogue) (part_given places Stations) = record {
      sets = key_stands [] Catalogue (Stations ∷ rest) words places e;
      places = key_stands (Catalogue ∷ []) Stations rest words places e;
    } in
    after (AreFilesOf words) (window_given words places) _ (λ window. files)

-- the names of files in the request of a command are parts of the words
pub request_names : (command : Command) (words : List (List ℕ)) (places : Places) → placed (keys_of command) words ≡ Ok places → IfOk (request_of command words places) (AreNamesIn words)
request_names Day words places e =
    after (AreNamesIn words) (degrees_given words places Lat (neg_ℤ (pos 90)) (pos 90)) _ (λ lat.
    after (AreNamesIn words) (degrees_given words places Lon (neg_ℤ (pos 180)) (pos 360)) _ (λ lon.
    after (AreNamesIn words) (window_given words places) _ (λ window. tt)))
request_names Plan words places e =
    let files = passes_names (Start ∷ End ∷ Res ∷ []) words places e in
    after_known (AreFilesOf words) (AreNamesIn words) (passes_given words places) _ files (λ passes known. known)
request_names Show words places e =
    after (AreNamesIn words) (instant_given words places Start) _ (λ start.
    key_stands [] Catalogue (Start ∷ []) words places e)
request_names Locate words places e =
    after (AreNamesIn words) (number_given words places Number) _ (λ number.
    after (AreNamesIn words) (instant_given words places At) _ (λ instant.
    key_stands [] Catalogue (Number ∷ At ∷ []) words places e))
request_names Grid words places e =
    after (AreNamesIn words) (plain_count_given words places Count 1_000) _ (λ count. tt)
request_names Book words places e =
    let files = passes_names (Start ∷ End ∷ Res ∷ Antennas ∷ []) words places e in
    after (AreNamesIn words) (short_count_given words places Antennas 64) _ (λ antennas.
    after_known (AreFilesOf words) (AreNamesIn words) (passes_given words places) _ files (λ passes known. known))
