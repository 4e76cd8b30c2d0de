-- What is proved of messages, beyond the functions' contracts.
use Rattle.std.specs.Prelude.{ℕ, suc, ◌^◌, max, min, ◌≤◌, ◌<◌, ◌≡◌, List, true, false, length, None, Some}
use Rattle.protobuf.specs.Each.{IfAny, Each}
use Rattle.protobuf.specs.Given.{bytes_given}
use Rattle.utf8.specs.Utf8.{IsText}
use Rattle.message.specs.Read.{read_into, scanned}
use Rattle.tables.specs.Table.{Kind, uint32, bool, bytes, string, strings, message, messages, Table, end, row, Value, Values, readable, padded, read_by, write_by}
use Rattle.tables.specs.Found.{rows_of, Cell, Held, Found, none_found, found_in, cells_of, number_in, flag_in, bytes_in, reading_of}

-- field numbers ascend, are not 0, and leave room for the wire type below 2^32
abbrev mutual
  pub OrderedKind : Kind → Type 0
  OrderedKind uint32 = Unit {0}
  OrderedKind bool = Unit {0}
  OrderedKind bytes = Unit {0}
  OrderedKind string = Unit {0}
  OrderedKind strings = Unit {0}
  OrderedKind (message T) = Ordered 0 T
  OrderedKind (messages T) = Ordered 0 T

  pub Ordered : ℕ → Table → Type 0
  Ordered below end = Unit {0}
  Ordered below (row n k T) = (below < n) × (n < 2 ^ 29) × OrderedKind k × Ordered n T

-- how deep messages nest, the message itself counted
abbrev mutual
  pub kind_levels : Kind → ℕ
  kind_levels uint32 = 0
  kind_levels bool = 0
  kind_levels bytes = 0
  kind_levels string = 0
  kind_levels strings = 0
  kind_levels (message T) = levels T
  kind_levels (messages T) = levels T

  pub levels : Table → ℕ
  levels end = 1
  levels (row n k T) = max (suc (kind_levels k)) (levels T)

-- numbers are below 2^32
abbrev mutual
  pub SmallValue : (k : Kind) → Value k → Type 0
  SmallValue uint32 v = IfAny (λ (x : ℕ). x < 2 ^ 32) v
  SmallValue bool v = Unit {0}
  SmallValue bytes v = Unit {0}
  SmallValue string v = Unit {0}
  SmallValue strings v = Unit {0}
  SmallValue (message T) v = IfAny (λ (m : Values T). Small T m) v
  SmallValue (messages T) v = Each (λ (m : Values T). Small T m) v

  pub Small : (T : Table) → Values T → Type 0
  Small end v = Unit {0}
  Small (row n k T) v = SmallValue k v.0 × Small T v.1

-- what holds of each string of a message, and of those that its parts hold
module _ (P : List ℕ → Type 0) where
  abbrev mutual
    pub StringsOf : (k : Kind) → Value k → Type 0
    StringsOf uint32 v = Unit {0}
    StringsOf bool v = Unit {0}
    StringsOf bytes v = Unit {0}
    StringsOf string v = IfAny P v
    StringsOf strings v = Each P v
    StringsOf (message T) v = IfAny (λ (m : Values T). StringsIn T m) v
    StringsOf (messages T) v = Each (λ (m : Values T). StringsIn T m) v

    pub StringsIn : (T : Table) → Values T → Type 0
    StringsIn end v = Unit {0}
    StringsIn (row n k T) v = StringsOf k v.0 × StringsIn T v.1

-- strings are text
abbrev pub Texts : (T : Table) → Values T → Type 0
Texts = StringsIn IsText

-- a table of document 000's kind
pub record Formed (T : Table) : Type 0 where
  pub ordered : Ordered 0 T
  pub shallow : levels T ≤ 4

-- values that are written read back as the same values, are not padded, and bytes in the written form come out unchanged; whoever writes must see that
-- strings are text, or the value can't be read
pub record RoundTripped (T : Table) : Type 0 where
  pub whole : (v : Values T) → Small T v → Texts T v → length (write_by T v) < 2 ^ 64 → readable T (write_by T v) ≡ true
  pub unpadded : (v : Values T) → Small T v → length (write_by T v) < 2 ^ 64 → padded T (write_by T v) ≡ false
  pub back : (v : Values T) → Small T v → length (write_by T v) < 2 ^ 64 → read_by T (write_by T v) ≡ v
  pub unchanged : (v : Values T) (s : List ℕ) → Small T v → length (write_by T v) < 2 ^ 64 → s ≡ write_by T v → write_by T (read_by T s) ≡ s

abbrev pub RoundTrip : Type 0
RoundTrip = (T : Table) → Formed T → RoundTripped T

-- document 02, Q-5: the strings of a value that can be read are text
abbrev pub TextsRead : Type 0
TextsRead = (T : Table) (s : List ℕ) → Formed T → readable T s ≡ true → Texts T (read_by T s)

-- how many are counted
abbrev pub counted : ℕ → ℕ
counted n = min n 4294967295

-- what is found of a row tells its value: a number, a flag, bytes; of a list how many entries it has; of a message whether a part of it is there
-- and what its rows tell

abbrev mutual
  pub Tells : List ℕ → (k : Kind) → Cell × Held k → Value k → Type 0
  Tells s uint32 c v = (number_in c.0) ≡ v
  Tells s bool c v = (flag_in c.0) ≡ v
  Tells s bytes c v = bytes_given s (bytes_in c.0) ≡ v
  Tells s string c v = bytes_given s (bytes_in c.0) ≡ v
  Tells s strings c v = c.0.count ≡ counted (length v)
  Tells s (message T) c None = (c.0.count ≡ 0) × (c.1 ≡ none_found T)
  Tells s (message T) c (Some m) = (0 < c.0.count) × TellsAll s T c.1 m
  Tells s (messages T) c v = c.0.count ≡ counted (length v)

  pub TellsAll : List ℕ → (T : Table) → Found T → Values T → Type 0
  TellsAll s end g v = Unit {0}
  TellsAll s (row n k T) g v = Tells s k g.0 v.0 × TellsAll s T g.1 v.1

-- one reader for every table: the walk by the table's numbers says whether a value can be read by the table and is padded, and what it finds tells the
-- values that the table reads; of what repeats it tells how many there are
pub record OneReader : Type 0 where
  pub walks : (T : Table) (s : List ℕ) → Formed T
      → read_into (rows_of T) (cells_of T (none_found T)) s ≡ scanned (reading_of T s) (cells_of T (found_in T s))
  pub tells : (T : Table) (s : List ℕ) → TellsAll s T (found_in T s) (read_by T s)
