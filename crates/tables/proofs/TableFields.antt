-- A written field reads back, wherever it stands.
use Rattle.std.specs.Prelude.{Some}
use Prim.Native.Nat.{ℕ, ◌+◌, ◌*◌, ◌-◌, ◌/◌, ◌%◌, ◌^◌, ◌<◌}
use mathlib.Core.Path.{◌≡◌, refl, sym, ap, ◌∙◌}
use mathlib.Core.List.{List, [], ◌∷◌, ◌++◌, map, append_assoc}
use mathlib.Core.Bool.{false}
use native.Mathlib.Nat.{sub_self}
use native.Mathlib.Omega.{arith}
use lib.ListN.{length, take, drop, length-append}
use lib.Seq.{take_at, drop_at}
use Rattle.buffer.specs.Walk.{Walked}
use Rattle.varint.specs.Varint.{varint, two, delimited}
use Rattle.varint.proofs.Laws.{two-length, delimited-length}
use Rattle.varint.proofs.Stretched.{varint-back, delimited-split, delimited-back}
use Rattle.protobuf.specs.Field.{numbered, held, content_at, field_at, fields_from}
use Rattle.tables.specs.Table.{Content, content_of}
use Rattle.protobuf.specs.Write.{number_field, bytes_field}
use Rattle.protobuf.specs.declared.Field.{Field}
use Rattle.protobuf.proofs.FieldLaws.{field-tagged, field-within, fields-more}

-- a field as it is written
abbrev pub number_content : ℕ → ℕ → Content
number_content n v = record { number = n; wire = 0; value = v; bytes = []; padded = false }

abbrev pub bytes_content : ℕ → List ℕ → Content
bytes_content n bs = record { number = n; wire = 2; value = 0; bytes = bs; padded = false }

-- the contents from a position on
unfoldable pub read_from : List ℕ → ℕ → Walked Content
read_from s at = record { items = map (content_of s) (fields_from s at).items; whole = (fields_from s at).whole }

abbrev pub before : List Content → Walked Content → Walked Content
before cs w = record { items = cs ++ w.items; whole = w.whole }

-- bytes that read as these contents, wherever they stand
abbrev pub Spells : List ℕ → List Content → Type 0
Spells bs cs =
    length bs < 2 ^ 64 → (front rest : List ℕ)
    → read_from (front ++ (bs ++ rest)) (length front) ≡ before cs (read_from (front ++ bs ++ rest) (length (front ++ bs)))

-- the bytes of a field are its contents
spells-field : (front bs rest : List ℕ) {f : Field} {c : Content} → field_at (front ++ (bs ++ rest)) (length front) ≡ Some f
    → f.end ≡ length (front ++ bs) → content_of (front ++ (bs ++ rest)) f ≡ c
    → read_from (front ++ (bs ++ rest)) (length front) ≡ before (c ∷ []) (read_from (front ++ bs ++ rest) (length (front ++ bs)))
unfolding read_from
spells-field front bs rest {f} {c} e z k =
    let s = front ++ (bs ++ rest) in
    let b = field-within s (length front) f e in
    rw (append_assoc front bs rest, fields-more s (length front) f (omega arith) e, k, z)

-- a written tag leads to the content behind it
tag_back : (s front : List ℕ) (key n w : ℕ) (rest : List ℕ) → s ≡ front ++ (varint key ++ rest) → key ≡ n * 8 + w → 0 < n → n < 2 ^ 29 → w < 8
    → field_at s (length front) ≡ content_at s n w false (length front + length (varint key))
tag_back s front key n w rest e q h k l =
    let d : key / 8 ≡ n = omega arith in
    let m : key % 8 ≡ w = omega arith in
    rw (field-tagged s (length front) key _ false (varint-back s front key rest (length front) e refl (omega arith)) (omega arith) (omega arith), d, m)

pub spells-number : (n v : ℕ) → 0 < n → n < 2 ^ 29 → v < 2 ^ 64 → Spells (number_field n v) (number_content n v ∷ [])
unfolding number_field two content_at numbered
spells-number n v h k l short front rest =
    let key = varint (n * 8) in
    let s = front ++ (number_field n v ++ rest) in
    spells-field front (number_field n v) rest
    (tag_back s front (n * 8) n 0 (varint v ++ rest) (simp append_assoc) (omega arith) h k (omega arith)
    ∙ ap (numbered n false) (varint-back s (front ++ key) v rest (length front + length key) (simp append_assoc) (sym (length-append front key)) l))
    (simp length-append (omega arith))
    (rw (sub_self (length front + length key + length (varint v))))

-- the bytes between what stands before them and what follows
pub between : (front lead bs rest : List ℕ) (a e : ℕ) → length (front ++ lead) ≡ a → e ≡ a + length bs
    → take (e - a) (drop a (front ++ (lead ++ bs ++ rest))) ≡ bs
between front lead bs rest a e p q =
    rw (append_assoc lead bs rest, ← append_assoc front lead (bs ++ rest), drop_at (front ++ lead) (bs ++ rest) a p) (take_at bs rest (e - a) (omega arith))

pub spells-bytes : (n : ℕ) (bs : List ℕ) → 0 < n → n < 2 ^ 29 → Spells (bytes_field n bs) (bytes_content n bs ∷ [])
unfolding bytes_field delimited content_at held
spells-bytes n bs h k short front rest =
    let key = n * 8 + 2 in
    let s = front ++ (bytes_field n bs ++ rest) in
    let mid = length front + length (varint key) in
    let start = mid + length (varint (length bs)) in
    let l = delimited-length key bs in
    let m = two-length key (length bs) in
    let e = ap (◌++◌ front) (delimited-split key bs rest) in
    spells-field front (bytes_field n bs) rest
    (tag_back s front key n 2 (varint (length bs) ++ (bs ++ rest)) e refl h k (omega arith)
    ∙ ap (held n false) (delimited-back s (front ++ varint key) bs rest mid (e ∙ sym (append_assoc front (varint key) (varint (length bs) ++ (bs ++ rest)))) (sym (length-append front (varint key))) (omega arith)))
    (simp length-append (omega arith))
    (ap (bytes_content n) (between front (two key (length bs)) bs rest start (start + length bs) (simp length-append (omega arith)) refl))
