-- How often edges are threaded: as often as they can be, once no edge leads into a block that only leads on.
use Rattle.std.proofs.Common.{◌≡◌, ℕ, zero, suc, ◌+◌, ◌-◌, ◌<◌, ◌≤◌, ◌||◌, Bool, true, false, List, [], ◌∷◌, map, Option, Some, None, refl, sym, ◌∙◌, ap, arith}
use Rattle.std.specs.List.{list_any}
use Rattle.ir.specs.declared.graph.Block.{Block}
use Rattle.ir.specs.declared.graph.Jump.{Jump}
use Rattle.ir.specs.declared.graph.Jump.TheVariants.{Go, Two, Return}
use Rattle.ir.specs.declared.graph.To.{To}
use Rattle.block_merge.specs.Threaded.{only_onward, further, threaded_to, threaded_jump, threaded_block, threaded_once, threaded}
use Rattle.block_merge.specs.Merged.{rounds}
use Rattle.block_merge.specs.Jumps.{is_some_to, leads_by_way, some_lead_by_way}

rounds_are : rounds ≡ 16
unfolding rounds
rounds_are = refl

-- ---- where no edge leads into a block that only leads on

same_to : (bs : List Block) (t : To) → is_some_to (only_onward bs t.block) ≡ false → threaded_to bs t ≡ t
same_to bs t h = by (only_onward bs t.block) h
  where
    by : (o : Option To) → is_some_to o ≡ false → further t o ≡ t
    by None e = refl
    by (Some to) e = absurd (cc)

same_jump : (bs : List Block) (j : Jump) → leads_by_way bs j ≡ false → threaded_jump bs j ≡ j
same_jump bs (Go t) h = ap Go (same_to bs t h)
same_jump bs (Two c x y) h = by (is_some_to (only_onward bs x.block)) (is_some_to (only_onward bs y.block)) refl refl h
  where
    by : (a b : Bool) → is_some_to (only_onward bs x.block) ≡ a → is_some_to (only_onward bs y.block) ≡ b → (a || b) ≡ false → threaded_jump bs (Two c x y) ≡ Two c x y
    by false false p q e = ap (λ z. Two c z (threaded_to bs y)) (same_to bs x p) ∙ ap (λ z. Two c x z) (same_to bs y q)
    by true true p q e = absurd (cc)
    by true false p q e = absurd (cc)
    by false true p q e = absurd (cc)
same_jump bs (Return v) h = refl

same_blocks : (bs xs : List Block) → list_any (λ b. leads_by_way bs b.jump) xs ≡ false → map (threaded_block bs) xs ≡ xs
same_blocks bs [] h = refl
same_blocks bs (x ∷ xs) h = by (leads_by_way bs x.jump) refl h (λ e. same_blocks bs xs e)
  where
    by : (b : Bool) → leads_by_way bs x.jump ≡ b → (b || list_any (λ b. leads_by_way bs b.jump) xs) ≡ false → (list_any (λ b. leads_by_way bs b.jump) xs ≡ false → map (threaded_block bs) xs ≡ xs)
        → map (threaded_block bs) (x ∷ xs) ≡ x ∷ xs
    by false e k rest =
        ap (λ (j : Jump). record { args = x.args; steps = x.steps; jump = j } ∷ map (threaded_block bs) xs) (same_jump bs x.jump e) ∙ ap (λ l. x ∷ l) (rest k)
    by true e k rest = absurd (cc)

stays : (n : ℕ) (bs : List Block) → threaded_once bs ≡ bs → threaded n bs ≡ bs
stays zero bs e = refl
stays (suc n) bs e = ap (threaded n) e ∙ stays n bs e

-- ---- the loop

pub first_round : (made bs : List Block) → made ≡ bs → threaded (rounds - 0) made ≡ threaded rounds bs
first_round made bs e =
    let k : rounds - 0 ≡ rounds = omega arith in
    ap (threaded (rounds - 0)) e ∙ ap (λ n. threaded n bs) k

pub next_round : (r : ℕ) (made new all : List Block) → r < 16 → threaded (rounds - r) made ≡ all → new ≡ threaded_once made → threaded (rounds - (r + 1)) new ≡ all
next_round r made new all lt h e =
    let k : rounds - r ≡ suc (rounds - (r + 1)) = omega (arith, rounds_are, lt) in
    ap (threaded (rounds - (r + 1))) e ∙ (sym (ap (λ n. threaded n made) k) ∙ h)

pub no_more : (r : ℕ) (made all : List Block) → threaded (rounds - r) made ≡ all → some_lead_by_way made ≡ false → made ≡ all
no_more r made all h e = sym (stays (rounds - r) made (same_blocks made made e)) ∙ h

pub last_round : (r : ℕ) (made all : List Block) → 16 ≤ r → threaded (rounds - r) made ≡ all → made ≡ all
last_round r made all le h =
    let k : rounds - r ≡ 0 = omega (arith, rounds_are, le) in
    sym (ap (λ n. threaded n made) k) ∙ h
