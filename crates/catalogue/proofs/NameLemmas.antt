-- The name of a text is a name.
use Rattle.std.proofs.Common.{◌≡◌, ℕ, zero, suc, ◌≤◌, nat_lt, arith, Bool, true, false, not, ◌&&◌, cond, List, [], ◌∷◌, length, map, All, refl}
use Rattle.std.proofs.lemmas.Bool.{ltb-false}
use Rattle.std.proofs.lemmas.List.{length-map, length-take}
use Rattle.catalogue.specs.Entries.{IsName, IsPrintable}
use Rattle.catalogue.specs.Names.{skip_spaces, without_zero, first_bytes, printed, or_dash, name_of}

-- a printed byte is printable
printed_is : (byte : ℕ) → IsPrintable (printed byte)
printed_is byte = by (nat_lt byte 32) (nat_lt 126 byte) refl refl
  where
    by : (below above : Bool) → nat_lt byte 32 ≡ below → nat_lt 126 byte ≡ above → IsPrintable (cond (not below && not above) byte 63)
    by false false e f = record { least = ltb-false _ _ e; most = ltb-false _ _ f }
    by false true e f = record { least = omega arith; most = omega arith }
    by true above e f = record { least = omega arith; most = omega arith }

all_printed : (text : List ℕ) → All IsPrintable (map printed text)
all_printed [] k d h = absurd (omega arith)
all_printed (byte ∷ rest) zero d h = printed_is byte
all_printed (byte ∷ rest) (suc k) d h = all_printed rest k d (omega arith)

dash_is : All IsPrintable (45 ∷ [])
dash_is zero d h = record { least = omega arith; most = omega arith }
dash_is (suc k) d h = absurd (omega arith)

kept_is : (kept : List ℕ) → length kept ≤ 64 → IsName (or_dash (map printed kept))
kept_is [] h = record { least = omega arith; most = omega arith; printable = dash_is }
kept_is (byte ∷ rest) h = record {
  least = omega arith;
  most = rw (length-map rest printed) h;
  printable = all_printed (byte ∷ rest);
}

first_few : (text : List ℕ) → length (first_bytes text) ≤ 64
first_few text = rw (length-take 64 text) (omega arith)

-- the name that a text gives has 1 to 64 printable bytes
pub is_name : (text : List ℕ) → IsName (name_of text)
unfolding name_of
is_name text = kept_is (first_bytes (skip_spaces (without_zero (skip_spaces text)))) (first_few (skip_spaces (without_zero (skip_spaces text))))

-- a dash is a name
pub dash_is_name : IsName (45 ∷ [])
dash_is_name = kept_is [] (omega arith)
