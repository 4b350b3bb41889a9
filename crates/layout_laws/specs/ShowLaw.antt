-- What is printed of the satellites of a catalogue tells them.
use Rattle.std.specs.Prelude.{◌≡◌, ◌<◌, ◌^◌, List, All}
use Rattle.catalogue.specs.Entries.{IsName}
use Rattle.catalogue.specs.declared.entry.Entry.{Entry}
use Rattle.civil_time.specs.Scale.{IsInstant}
use Rattle.decimals.specs.Decimal.{IsDecimal}
use Rattle.pass_text.specs.ShowLayout.{show_layout}

-- a satellite: a number of 32 bits, an instant, decimals, a catalogue's name
pub record IsEntry (entry : Entry) : Type 0 where
  pub number : entry.elements.number < 2 ^ 32
  pub epoch : IsInstant entry.elements.epoch
  pub motion : IsDecimal entry.elements.motion
  pub ecc : IsDecimal entry.elements.ecc
  pub incl : IsDecimal entry.elements.incl
  pub node : IsDecimal entry.elements.node
  pub argp : IsDecimal entry.elements.argp
  pub anomaly : IsDecimal entry.elements.anomaly
  pub bstar : IsDecimal entry.elements.bstar
  pub name : IsName entry.name

-- catalogues of one text are the same
abbrev pub LayoutsTellCatalogues : Type 0
LayoutsTellCatalogues =
    (xs ys : List Entry) → All IsEntry xs → All IsEntry ys → show_layout xs ≡ show_layout ys → xs ≡ ys
