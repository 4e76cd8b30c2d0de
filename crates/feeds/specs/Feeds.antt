-- The feeds of a merge, document 01, "Transfer": each call of a feed is judged at the start, which stands at its own turn; and the bitmap keeps its length.
use Rattle.std.specs.Prelude.{◌≡◌, List, [], ◌∷◌, true, length}
use Rattle.transfer.specs.Block.{Flash, Offer}
use Rattle.transfer.specs.Merge.{Merge, put_all}
use Rattle.calls.specs.Datagram.{Call}
use Rattle.calls.specs.Merge.{Kept, after_all, runs, feeds, Feed, brought}

-- why `Feed k` and `brought k` may judge every call at the start: while a transfer is open no call of a feed moves what they go by
pub record FeedsStand : Type 0 where
  -- after calls of a feed any call is one of a feed exactly if it was at the start, and runs and brings what it would have there
  pub turn : (k : Kept) (xs : List Call) (c : Call) → k.state.images.«open» ≡ true → Feed k xs
      → (feeds (after_all xs k) c ≡ feeds k c) × (runs (after_all xs k) c ≡ runs k c) × (brought (after_all xs k) (c ∷ []) ≡ brought k (c ∷ []))
  -- and so is and does each call of a merge at its own turn, since a merge of feeds is a feed
  pub merge : (k : Kept) (xs ys zs : List Call) → Feed k xs → Feed k ys → Merge xs ys zs → Feed k zs

-- blocks that are put one after the other leave a bitmap of 128 bytes where there was one
abbrev pub MapStays : Type 0
MapStays = (f : Flash) (os : List Offer) → length f.image.bitmap ≡ 128 → length (put_all os f).image.bitmap ≡ 128
