-- Text that is read and kept stays text, document 02, Q-5; ids that are listed are below 2^32.
use Rattle.std.specs.Prelude.{None, Option, Some}
use Prim.Native.Nat.{ℕ, ◌-◌, ◌^◌, ◌≤◌}
use mathlib.Core.Path.{◌≡◌, refl, sym, subst, ◌∙◌}
use mathlib.Core.List.{List, [], ◌∷◌}
use mathlib.Core.Bool.{true}
use native.Mathlib.Omega.{arith}
use borrow.Author.Tests.{leb-true, ltb-true}
use lib.Dec.{eqb, ltb}
use lib.ListN.{length, take, drop, replicate, length-take, length-replicate}
use lib.Seq.{sets}
use Rattle.buffer.proofs.Tests.{pick-both, both}
use Rattle.csmp.specs.Tables.{redirect, session, transfer_request}
use Rattle.csmp.specs.Values.{at_most}
use Rattle.csmp.specs.declared.Image.{Image}
use Rattle.csmp.proofs.Formed.{redirect-formed, session-formed, transfer-request-formed}
use Rattle.decimal.specs.Decimal.{IsId, spelt, all_digits, digits_of, zero_or, id_of, id_then, ids_among}
use Rattle.decimal.specs.Ids.{held}
use Rattle.decode.specs.Read.{redirect_of, session_of}
use Rattle.decode.proofs.Theorems.{read-by-tables}
use Rattle.decode_image.specs.Read.{transfer_of}
use Rattle.decode_image.proofs.Theorems.{read-by-tables as images-by-tables}
use Rattle.decode_report.specs.Report.{report_of}
use Rattle.decode_report.proofs.Theorems.{report-read}
use Rattle.firmware.specs.Place.{name_at, version_at}
use Rattle.protobuf.specs.Each.{IfAny, Each}
use Rattle.protobuf.specs.Given.{bytes_given}
use Rattle.tables.specs.Statements.{Texts}
use Rattle.tables.specs.Table.{readable, read_by}
use Rattle.tables.proofs.TableTexts.{texts-read}
use Rattle.transfer.proofs.Stores.{take-sets}
use Rattle.utf8.specs.Utf8.{utf8_from, is_utf8, IsText}
use Rattle.protobuf.specs.declared.Span.{Span}

-- no bytes are text
pub none-text : (l : List ℕ) → IsText (take 0 l)
unfolding is_utf8 utf8_from
none-text l = refl

-- bytes held by value, with zeros behind them
kept : (n : ℕ) (bs : List ℕ) → length bs ≤ n → take (length bs) (sets (replicate n 0) 0 bs) ≡ bs
kept n bs h = take-sets bs (replicate n 0) 0 (omega (arith, length-replicate {A = ℕ} n 0))

-- bytes of a value that are text and not over their size, and what is held of them
abbrev pub ShortText : ℕ → List ℕ → Type 0
ShortText n bs = (length bs ≤ n) × IsText bs

abbrev HeldText : ℕ → ℕ → List ℕ → Type 0
HeldText n len bs = (len ≤ n) × IsText (take len bs)

pub text-held : (n : ℕ) (bs : List ℕ) → ShortText n bs → HeldText n (length bs) (sets (replicate n 0) 0 bs)
text-held n bs h = (h.0, subst IsText (sym (kept n bs h.0)) h.1)

pub short-text : (n : ℕ) (v : List ℕ) (b : Option Span) → at_most n b ≡ true → IfAny IsText (bytes_given v b) → IfAny (ShortText n) (bytes_given v b)
unfolding at_most
short-text n v (Some x) h t = (omega (arith, length-take (x.end - x.start) (drop x.start v), leb-true (x.end - x.start) n h), t)
short-text n v None h t = tt

pub name-held : (v : List ℕ) (b : Option Span) → IfAny (ShortText 128) (bytes_given v b) → HeldText 128 (name_at v b).len (name_at v b).bytes
unfolding name_at
name-held v (Some x) h = text-held 128 (take (x.end - x.start) (drop x.start v)) h
name-held v None h = (omega arith, none-text (replicate 128 0))

pub version-held : (v : List ℕ) (b : Option Span) → IfAny (ShortText 32) (bytes_given v b) → HeldText 32 (version_at v b).len (version_at v b).bytes
unfolding version_at
version-held v (Some x) h = text-held 32 (take (x.end - x.start) (drop x.start v)) h
version-held v None h = (omega arith, none-text (replicate 32 0))

-- file name and version of an image are text
abbrev pub Named : Image → Type 0
Named i = IsText (take i.name.len i.name.bytes) × IsText (take i.version.len i.version.bytes)

-- strings of records that can be read, by name
module _ (v : List ℕ) where
  pub url-text : (redirect_of v).reading.readable ≡ true → IfAny IsText (bytes_given v (redirect_of v).url)
  url-text h =
      let r = read-by-tables.redirects v in
      let t = texts-read redirect v redirect-formed (both (readable redirect v) _ (sym r.reading ∙ h)).0 in
      subst (IfAny IsText) (sym r.url) t.0

  pub session-text : (session_of v).reading.readable ≡ true → IfAny IsText (bytes_given v (session_of v).id)
  session-text h =
      let r = read-by-tables.sessions v in
      let t = texts-read session v session-formed (both (readable session v) _ (sym r.reading ∙ h)).0 in
      subst (IfAny IsText) (sym r.id) t.0

  module _ (h : (transfer_of v).reading.readable ≡ true) where
    transfer-texts : Texts transfer_request (read_by transfer_request v)
    transfer-texts = texts-read transfer_request v transfer-request-formed (sym (images-by-tables.transfers v).reading ∙ h)

    pub name-text : IfAny IsText (bytes_given v (transfer_of v).name)
    name-text = subst (IfAny IsText) (sym (images-by-tables.transfers v).file_name) transfer-texts.1.1.0

    pub version-text : IfAny IsText (bytes_given v (transfer_of v).version)
    version-text = subst (IfAny IsText) (sym (images-by-tables.transfers v).version) transfer-texts.1.1.1.0

-- what a text spells is an id
abbrev Spelt : Option ℕ → Type 0
Spelt (Some id) = IsId id
Spelt None = Unit {0}

zero-small : (s : List ℕ) → Spelt (zero_or s)
unfolding zero_or
zero-small [] = omega arith
zero-small (b ∷ s) = tt

digits-small : (s : List ℕ) → Spelt (digits_of s)
unfolding digits_of
digits-small s =
    pick-both Spelt (all_digits s) _ _
    (λ _. pick-both Spelt (ltb (spelt 0 s) (2 ^ 32)) _ _ (λ h. ltb-true (spelt 0 s) (2 ^ 32) h) (λ _. tt)) (λ _. tt)

id-small : (s : List ℕ) → Spelt (id_of s)
unfolding id_of
id-small [] = tt
id-small (b ∷ s) = pick-both Spelt (eqb b 48) _ _ (λ _. zero-small s) (λ _. digits-small (b ∷ s))

then-small : (i : Option ℕ) (ids : List ℕ) → Spelt i → Each IsId ids → Each IsId (id_then i ids)
unfolding id_then
then-small (Some id) ids h k = (h, k)
then-small None ids h k = k

among-small : (ts : List (List ℕ)) → Each IsId (ids_among ts)
unfolding ids_among
among-small [] = tt
among-small (t ∷ ts) = then-small (id_of t) (ids_among ts) (id-small t) (among-small ts)

pub report-small : (v : List ℕ) → (report_of v).reading.readable ≡ true → Each IsId (held (report_of v).ids)
report-small v h = subst (Each IsId) (sym ((report-read v).ids h)) (among-small _)
