-- Every merge of two feeds of blocks that agree leaves what the first followed by the second leaves.
use Rattle.std.proofs.Common.{◌≡◌, List, [], ◌∷◌, sym, refl, ap, ◌∙◌}
use Rattle.csmp.specs.declared.Image.{Image}
use Rattle.protobuf.specs.Each.{Each}
use Rattle.transfer.proofs.Puts.{agree-put, put-swap}
use Rattle.transfer.specs.Block.{Flash, Offer, put_block}
use Rattle.transfer.specs.Merge.{Merge, none, first, second, put_all, Agree, Agreeing, Merges}

-- a put keeps agreement
each-agrees : (f : Flash) (c b : Offer) (xs : List Offer) → Each (λ (a : Offer). Agree f.image a b) xs
    → Each (λ (a : Offer). Agree (put_block f.image f.bytes c.number c.bytes).image a b) xs
each-agrees f c b [] h = tt
each-agrees f c b (a ∷ xs) h =
    (agree-put f.image a.number a.bytes b.number b.bytes f.bytes c.number c.bytes h.0, each-agrees f c b xs h.1)

agree-each : (f : Flash) (c a : Offer) (ys : List Offer) → Each (λ (b : Offer). Agree f.image a b) ys
    → Each (λ (b : Offer). Agree (put_block f.image f.bytes c.number c.bytes).image a b) ys
agree-each f c a [] h = tt
agree-each f c a (b ∷ ys) h =
    (agree-put f.image a.number a.bytes b.number b.bytes f.bytes c.number c.bytes h.0, agree-each f c a ys h.1)

all-agree : (f : Flash) (c : Offer) (xs ys : List Offer) → Agreeing f.image xs ys
    → Agreeing (put_block f.image f.bytes c.number c.bytes).image xs ys
all-agree f c [] ys h = tt
all-agree f c (a ∷ xs) ys h = (agree-each f c a ys h.0, all-agree f c xs ys h.1)

-- the first of the second feed, seen from each of the first; and the others
heads : (i : Image) (b : Offer) (xs ys : List Offer) → Agreeing i xs (b ∷ ys) → Each (λ (a : Offer). Agree i a b) xs
heads i b [] ys h = tt
heads i b (a ∷ xs) ys h = (h.0.0, heads i b xs ys h.1)

tails : (i : Image) (b : Offer) (xs ys : List Offer) → Agreeing i xs (b ∷ ys) → Agreeing i xs ys
tails i b [] ys h = tt
tails i b (a ∷ xs) ys h = (h.0.1, tails i b xs ys h.1)

-- a block put past blocks that agree with it
past : (xs : List Offer) (b : Offer) (f : Flash) → Each (λ (a : Offer). Agree f.image a b) xs
    → put_all xs (put_block f.image f.bytes b.number b.bytes)
    ≡ (let g = put_all xs f in put_block g.image g.bytes b.number b.bytes)
unfolding put_all
past [] b f h = refl
past (a ∷ xs) b f h =
    let g = put_block f.image f.bytes a.number a.bytes in
    ap (put_all xs) (sym (put-swap f.image f.bytes a.number a.bytes b.number b.bytes h.0))
    ∙ past xs b g (each-agrees f a b xs h.1)

merged : {xs ys zs : List Offer} → Merge xs ys zs → (f : Flash) → Agreeing f.image xs ys → put_all zs f ≡ put_all ys (put_all xs f)
unfolding put_all
merged none f h = refl
merged (first {a = a} {xs = xs} {ys = ys} m) f h =
    merged m (put_block f.image f.bytes a.number a.bytes) (all-agree f a xs ys h.1)
merged (second {b = b} {xs = xs} {ys = ys} m) f h =
    merged m (put_block f.image f.bytes b.number b.bytes) (all-agree f b xs ys (tails f.image b xs ys h))
    ∙ ap (put_all ys) (past xs b f (heads f.image b xs ys h))

pub merges : Merges
merges f xs ys zs m h = merged m f h
