-- Steps e to i, document 01, "Requests, in this order"; padding, document 02, Q-8.
use Rattle.std.specs.Prelude.{ℕ, ◌+◌, ◌-◌, ◌≡◌, List, [], ◌∷◌, Bool, true, false, not, ◌&&◌, ◌||◌, Result, Ok, Err, length, take, drop, eqb, leb}
use Rattle.buffer.specs.Pick.{pick}
use Rattle.decode_image.specs.Read.{block_of}
use Rattle.schedule.specs.declared.Point.{Point}
use Rattle.state.specs.declared.Groups.{Groups}
use Rattle.tlv.specs.Record.{Tlv, records, readable, padded_among}
use Rattle.post.specs.Value.{is_readable, is_padded, is_expired, is_match, is_forbidden}
use Rattle.post.specs.declared.Looked.{Looked}
use Rattle.post.specs.declared.Seen.{Seen}

-- the records of a payload, one by one
unfoldable pub noted : Groups → Point → Seen → ℕ → List ℕ → Seen
noted g time s k v =
    record {
      records = s.records + 1;
      readable = s.readable && is_readable k v;
      signed = s.signed || eqb k 77;
      expired = s.expired || is_expired k v time;
      grouped = s.grouped || eqb k 57;
      matched = s.matched || is_match k v g;
      forbidden = s.forbidden || is_forbidden k;
    }

unfoldable pub seen_of : Groups → Point → Seen → List Tlv → Seen
seen_of g time s [] = s
seen_of g time s (t ∷ ts) = seen_of g time (noted g time s t.kind t.value) ts

abbrev pub nothing_seen : Seen
nothing_seen =
    record { records = 0; readable = true; signed = false; expired = false; grouped = false; matched = false; forbidden = false }

-- e. a record that can't be read: the whole payload is refused
unfoldable pub sealed : Bool → Seen → Seen
sealed whole s =
    record {
      records = s.records;
      readable = whole && s.readable;
      signed = s.signed;
      expired = s.expired;
      grouped = s.grouped;
      matched = s.matched;
      forbidden = s.forbidden;
    }

-- a payload lies in a datagram of at most 1,280 bytes
unfoldable pub looked_at : Groups → Point → List ℕ → Seen
looked_at g time p = pick (leb (length p) 1280) (sealed (readable p) (seen_of g time nothing_seen (records p))) (sealed false nothing_seen)

-- document 02, Q-8: a varint that is read in the payload is not the shortest
unfoldable pub padded_in : List ℕ → Bool
padded_in p = leb (length p) 1280 && padded_among is_padded (records p)

-- what the walk leaves: what it saw, whether a varint is padded, and what the ImageBlock says that it read last, by where its value stands
pub record LookedBy (g : Groups) (time : Point) (p : List ℕ) (r : Looked) : Type 0 where
  pub seen : r.seen ≡ looked_at g time p
  pub padded : r.padded ≡ padded_in p
  pub block : r.block ≡ block_of (take (r.end - r.start) (drop r.start p))

-- f. Verdict bad, or signatures required and not good; without record 77 the verdict counts as none
unfoldable pub badly_signed : Bool → ℕ → Bool → Bool
badly_signed signed verdict required = pick signed (pick (eqb verdict 2) true (pick (eqb verdict 1) false required)) required

-- the code of an error to answer, or that the records may run
abbrev pub Judgement : Type 0
Judgement = Result (Unit {0}) ℕ

-- e. 4.00; f. and g. 4.01; h. records 57 present and none equal to a held group: 4.03; i. 4.03; j. the rest run
unfoldable pub judged : Seen → ℕ → Bool → Judgement
judged s verdict required =
    pick (s.readable && (not (eqb s.records 0) && leb s.records 24))
    (pick (badly_signed s.signed verdict required) (Err 129)
    (pick s.expired (Err 129)
    (pick (s.grouped && not s.matched) (Err 131)
    (pick s.forbidden (Err 131) (Ok tt)))))
    (Err 128)

-- document 02, Q-8: where padding is refused, 4.00 at step e
unfoldable pub judged_as : Bool → Bool → Seen → ℕ → Bool → Judgement
judged_as refuse padded s verdict required = pick (refuse && padded) (Err 128) (judged s verdict required)
