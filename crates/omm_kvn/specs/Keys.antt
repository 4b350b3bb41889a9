-- The keywords of orbit mean-elements messages, as in CCSDS 502.0, and their order.
use Rattle.std.specs.Prelude.{ℕ, Bool, ◌==◌, List, [], ◌∷◌, codes, find, Option}
use Rattle.std.specs.Str.{bytes_eq}
use Rattle.omm_kvn.specs.declared.key.Key.{Key}
use Rattle.omm_kvn.specs.declared.key.Key.TheVariants.{Version, Name, ObjectId, Centre, Frame, TimeSystem, Theory, Epoch, Motion, Ecc, Incl, Node, Argp, Anomaly, Number, EphemerisType, Bstar, SemiMajorAxis, Bterm, Agom}

-- the keywords in their order
abbrev pub keys : List Key
keys =
    Version ∷ Name ∷ ObjectId ∷ Centre ∷ Frame ∷ TimeSystem ∷ Theory ∷ Epoch ∷ Motion
    ∷ Ecc ∷ Incl ∷ Node ∷ Argp ∷ Anomaly ∷ Number ∷ EphemerisType ∷ Bstar ∷ SemiMajorAxis ∷ Bterm ∷ Agom ∷ []

-- the keyword as it stands in a message
abbrev pub keyword_of : Key → List ℕ
keyword_of Version = codes "CCSDS_OMM_VERS"
keyword_of Name = codes "OBJECT_NAME"
keyword_of ObjectId = codes "OBJECT_ID"
keyword_of Centre = codes "CENTER_NAME"
keyword_of Frame = codes "REF_FRAME"
keyword_of TimeSystem = codes "TIME_SYSTEM"
keyword_of Theory = codes "MEAN_ELEMENT_THEORY"
keyword_of Epoch = codes "EPOCH"
keyword_of Motion = codes "MEAN_MOTION"
keyword_of Ecc = codes "ECCENTRICITY"
keyword_of Incl = codes "INCLINATION"
keyword_of Node = codes "RA_OF_ASC_NODE"
keyword_of Argp = codes "ARG_OF_PERICENTER"
keyword_of Anomaly = codes "MEAN_ANOMALY"
keyword_of Number = codes "NORAD_CAT_ID"
keyword_of EphemerisType = codes "EPHEMERIS_TYPE"
keyword_of Bstar = codes "BSTAR"
keyword_of SemiMajorAxis = codes "SEMI_MAJOR_AXIS"
keyword_of Bterm = codes "BTERM"
keyword_of Agom = codes "AGOM"

-- its place among the keywords, from 0
abbrev pub place_of : Key → ℕ
place_of Version = 0
place_of Name = 1
place_of ObjectId = 2
place_of Centre = 3
place_of Frame = 4
place_of TimeSystem = 5
place_of Theory = 6
place_of Epoch = 7
place_of Motion = 8
place_of Ecc = 9
place_of Incl = 10
place_of Node = 11
place_of Argp = 12
place_of Anomaly = 13
place_of Number = 14
place_of EphemerisType = 15
place_of Bstar = 16
place_of SemiMajorAxis = 17
place_of Bterm = 18
place_of Agom = 19

-- two keywords are the same
abbrev pub is_same : Key → Key → Bool
is_same key other = place_of key == place_of other

-- a word is the keyword
abbrev pub is_keyword_of : List ℕ → Key → Bool
is_keyword_of word key = bytes_eq (keyword_of key) word

-- the key whose keyword a word is, if there is one
unfoldable pub key_of : List ℕ → Option Key
key_of word = find (is_keyword_of word) keys
