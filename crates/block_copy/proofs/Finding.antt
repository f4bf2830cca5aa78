-- The search, block by block.
use Rattle.std.proofs.Common.{◌≡◌, ℕ, zero, suc, ◌+◌, ◌-◌, ◌<◌, ◌||◌, Bool, true, false, List, [], ◌∷◌, ◌++◌, length, refl, sym, ◌∙◌, ap, arith}
use Rattle.std.specs.Prelude.{reverse}
use Rattle.std.proofs.lemmas.List.{reverse-append}
use Rattle.ir.specs.declared.graph.Block.{Block}
use Rattle.block_merge.specs.Renamed.{block_of}
use Rattle.block_merge.specs.Found.{is_in, targets}
use Rattle.block_copy.specs.declared.searching.Near.{Near}
use Rattle.block_copy.specs.Searches.{Search, all_seen, from_next, finds, max_looks, leads_to, search_of}

reverse_more : (xs : List ℕ) (x : ℕ) → reverse (xs ++ x ∷ []) ≡ x ∷ reverse xs
reverse_more xs x = reverse-append xs (x ∷ [])

module _ (bs : List Block) (wanted : List ℕ) (k : ℕ) where
  pub finds_none : (n : ℕ) (seen : List ℕ) → finds n bs wanted k (record { seen = seen; left = [] }) ≡ false
  finds_none zero seen = refl
  finds_none (suc n) seen = refl

  -- the blocks left are `rest` and on top of them `next`; the whole search answers `answer`
  module _ (n i : ℕ) (seen left rest : List ℕ) (next : ℕ) (answer : Bool) (lt : i < n) (is : left ≡ rest ++ next ∷ [])
      (so_far : finds (n - i) bs wanted k (record { seen = seen; left = reverse left }) ≡ answer) where
    abbrev then : Search
    then = all_seen k (record { seen = seen; left = reverse rest }) (targets (block_of bs next).jump)

    looks : (is_in wanted next || finds (n - (i + 1)) bs wanted k then) ≡ answer
    looks =
        let z : n - i ≡ suc (n - (i + 1)) = omega (arith, lt) in
        let e : reverse left ≡ next ∷ reverse rest = ap reverse is ∙ reverse_more rest next in
        ap (λ xs. from_next (finds (n - (i + 1)) bs wanted k) bs wanted k seen xs) (sym e)
        ∙ (ap (λ j. finds j bs wanted k (record { seen = seen; left = reverse left })) (sym z) ∙ so_far)

    pub look_finds : is_in wanted next ≡ true → true ≡ answer
    look_finds h = ap (λ b. b || finds (n - (i + 1)) bs wanted k then) (sym h) ∙ looks

    pub look_goes : is_in wanted next ≡ false → (near : Search) → near ≡ all_seen k (record { seen = seen; left = reverse rest }) (targets (block_of bs next).jump) → finds (n - (i + 1)) bs wanted k near ≡ answer
    look_goes h near e = ap (finds (n - (i + 1)) bs wanted k) e ∙ (ap (λ b. b || finds (n - (i + 1)) bs wanted k then) (sym h) ∙ looks)

  no_items : (xs : List ℕ) → length xs ≡ 0 → xs ≡ []
  no_items [] h = refl
  no_items (x ∷ xs) h = absurd (omega (arith, h))

  pub look_ends : (n : ℕ) (seen left : List ℕ) (answer : Bool) → length left ≡ 0 → finds n bs wanted k (record { seen = seen; left = reverse left }) ≡ answer → false ≡ answer
  look_ends n seen left answer none so_far =
      let e : reverse left ≡ [] = ap reverse (no_items left none) in
      sym (finds_none n seen) ∙ (ap (λ xs. finds n bs wanted k (record { seen = seen; left = xs })) (sym e) ∙ so_far)

  pub look_starts : (n : ℕ) (s : Search) → finds (n - 0) bs wanted k s ≡ finds n bs wanted k s
  look_starts n s = let z : n - 0 ≡ n = omega arith in ap (λ j. finds j bs wanted k s) z

  pub leads_is : (b n : ℕ) (near : Near) → n ≡ max_looks → near.seen.items ≡ b ∷ [] → near.left.items ≡ b ∷ [] → finds n bs wanted k (search_of near) ≡ leads_to bs wanted k b
  leads_is b n near e p q =
      ap (λ j. finds j bs wanted k (search_of near)) e
      ∙ (ap (λ xs. finds max_looks bs wanted k (record { seen = xs; left = reverse near.left.items })) p ∙ ap (λ xs. finds max_looks bs wanted k (record { seen = b ∷ []; left = reverse xs })) q)

pub looks_are : max_looks ≡ 16
unfolding max_looks
looks_are = refl
