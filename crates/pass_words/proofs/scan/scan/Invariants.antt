use Rattle.std.proofs.Common.{◌≡◌, ◌+◌, ◌-◌, [], get_or, drop}
use Rattle.pass_words.specs.Found.{places_in}
use Rattle.pass_words.specs.Options.{option_roles, options}
use Rattle.pass_words.specs.Roles.{roles}
use Rattle.pass_words.proofs.OptionsLemmas.{read_on}
use Rattle.pass_words.proofs.scan.scan.Given as goal

-- what is left to read gives the answer
abbrev pub invariant-loop-index : goal.invariant-loop-index
invariant-loop-index l =
    options (option_roles l.keys l.words) ≡ read_on (l.index + 1) (places_in l.found) (roles l.keys (l.index + 1) (get_or l.words (l.index - 1) []) (drop l.index l.words))
