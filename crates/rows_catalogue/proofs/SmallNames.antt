-- The short texts and lists, one by one.
use Rattle.std.proofs.Common.{◌≤◌, arith, [], ap, length}
use Rattle.std.proofs.lemmas.List.Elements.{All-cons, All-nil}
use Rattle.catalogue.specs.Entries.{IsPrintable}
use Rattle.rows_catalogue.specs.SmallNames.{SmallCatalogues, SmallNames}

pub small_names : SmallNames
small_names = record {
  space = record {
    least = omega arith;
    most = omega arith;
    printable = All-cons IsPrintable 32 [] (record { least = omega arith; most = omega arith }) (All-nil IsPrintable);
  };
  tilde = record {
    least = omega arith;
    most = omega arith;
    printable = All-cons IsPrintable 126 [] (record { least = omega arith; most = omega arith }) (All-nil IsPrintable);
  };
  none = λ h. omega (arith, h.least);
  below = λ h. omega (arith, (h.printable 0 0 (omega arith)).least);
  above = λ h. omega (arith, (h.printable 0 0 (omega arith)).most);
  two_lines = λ h. omega (arith, (h.printable 1 0 (omega arith)).least);
  longer = λ h. omega (arith, h.most);
}

pub small_catalogues : SmallCatalogues
small_catalogues = record {
  too_many = λ entries many h. omega (arith, many, h.most);
  unnamed = λ entry none h. let least : 1 ≤ length entry.name = (h.names 0 entry (omega arith)).least in let empty = ap length none in omega (arith, least, empty);
}
