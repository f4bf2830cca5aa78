-- The place of an element, index by index.
use Rattle.std.proofs.Common.{◌≡◌, ℕ, zero, suc, ◌+◌, ◌*◌, ◌<◌, ◌≤◌, List, [], ◌∷◌, map, length, get_or, drop, refl, sym, ◌∙◌, ap, subst, arith, append-nil, ⊎_elim, inl, inr, length-drop}
use Rattle.std.specs.Prelude.{slice_get, option_map, Some, Bool, true, false, ◌==◌}
use Rattle.std.proofs.lemmas.Bool.{ne_eqb}
use Rattle.std.proofs.lemmas.List.{length-map}
use Rattle.std.proofs.lemmas.Option.{slice_get-map, slice_get_within, slice_get-get_or, get_or_from_slice_get}
use Rattle.std.proofs.Math.Seq.{drop-cons}
use Rattle.c_ast.specs.declared.typed.ArrayOf.{ArrayOf}
use Rattle.c_ast.specs.declared.typed.TypedExpr.{TypedExpr}
use Rattle.ir.specs.declared.instr.Instr.{Instr}
use Rattle.c_meaning.specs.Counts.{expr_price, target_price}
use Rattle.struct_cfg.specs.Layings.{Piece, no_step, after}
use Rattle.struct_cfg.specs.Operators.{index_laid, next_place, further_places, place_laid}
use Rattle.struct_cfg.specs.Exprs.{piece}
use Rattle.struct_cfg.specs.Code.{IsLaid, HasRoom, one_place, left_places, GoesOn}
use Rattle.struct_cfg.proofs.Coded.{laid_after}

-- a list from a place on, by the element there
from_place : {A : Type 0} (xs : List A) (k : ℕ) (x : A) → slice_get xs k ≡ Some x → drop k xs ≡ x ∷ drop (k + 1) xs
from_place xs k x e =
    let h = slice_get_within xs k x e in
    let n : suc k ≡ k + 1 = omega arith in
    drop-cons xs k x h ∙ ap (λ i. get_or xs k x ∷ drop i xs) n ∙ ap (λ y. y ∷ drop (k + 1) xs) (get_or_from_slice_get xs k x x e)

number_at : (xs : List ℕ) (k : ℕ) → k < length xs → drop k xs ≡ get_or xs k 0 ∷ drop (k + 1) xs
number_at xs k h = let n : suc k ≡ k + 1 = omega arith in drop-cons xs k 0 h ∙ ap (λ i. get_or xs k 0 ∷ drop i xs) n

-- an element that is read
pub at_index : (xs : List TypedExpr) (k : ℕ) (x : TypedExpr) → k < length xs → x ≡ get_or xs k x → slice_get xs k ≡ Some x
at_index xs k x h e = slice_get-get_or xs k x h ∙ ap Some (sym e)

past : {A : Type 0} (xs : List A) (k : ℕ) → length xs ≤ k → length (drop k xs) ≡ 0
past xs k h = omega (arith, length-drop k xs)

price_from : (es : List TypedExpr) (k : ℕ) (x : TypedExpr) → slice_get es k ≡ Some x → target_price (drop k es) ≡ 4 + expr_price x + target_price (drop (k + 1) es)
price_from es k x e = ap target_price (from_place es k x e)

pub price_some : (es : List TypedExpr) → 1 ≤ target_price es
price_some [] = omega arith
price_some (e ∷ es) = omega (arith, price_some es)

drop_price : (k : ℕ) (es : List TypedExpr) → target_price (drop k es) ≤ target_price es
drop_price zero es = omega arith
drop_price (suc k) [] = omega arith
drop_price (suc k) (e ∷ es) = omega (arith, drop_price k es)

module _ (arrays : List ArrayOf) (env dims : List ℕ) (es : List TypedExpr) where
  abbrev pieces : List Piece
  pieces = map (piece arrays env) es

  pieces_from : (k : ℕ) (x : TypedExpr) → slice_get es k ≡ Some x → drop k pieces ≡ piece arrays env x ∷ drop (k + 1) pieces
  pieces_from k x e = from_place pieces k (piece arrays env x) (slice_get-map (piece arrays env) es k ∙ ap (option_map (piece arrays env)) e)

  pub next_room : (old : List Instr) (k counter at : ℕ) (now : List Instr) (x : TypedExpr) → GoesOn arrays env dims es old k counter at now → k < length es → x ≡ get_or es k x → HasRoom env old (2 * target_price es) → HasRoom env now (2 * (4 + expr_price x))
  next_room old k counter at now x g h e r = omega (arith, g.few, price_from es k x (at_index es k x h e), price_some (drop (k + 1) es), drop_price k es)

  pub goes_first : (old : List Instr) → GoesOn arrays env dims es old 0 0 0 old
  goes_first old = record { left = λ new u q. q; few = omega arith; counted = inl refl }

  -- what is left after one index more
  one_more : (k at v d : ℕ) (x : TypedExpr) (now new last : List Instr) (u : ℕ) (first : Bool) → first ≡ (k == 0) → k < length dims → d ≡ get_or dims k 0 → slice_get es k ≡ Some x → IsLaid (one_place first at d (piece arrays env x)) env now new v
      → IsLaid (left_places (k + 1) v dims pieces) env new last u → IsLaid (left_places k at dims pieces) env now last u
  one_more zero at v d x now new last u true f h ed e p q =
      let a = number_at dims 0 h in
      let b = pieces_from 0 x e in
      let one : 0 + 1 ≡ 1 = omega arith in
      let whole = laid_after (index_laid (piece arrays env x)) (λ v. further_places v (drop 1 dims) (drop 1 pieces)) env now new last v u p q in
      subst (λ y. IsLaid (place_laid y pieces) env now last u) (sym a) (subst (λ y. IsLaid (place_laid (get_or dims 0 0 ∷ drop 1 dims) y) env now last u) (sym b) whole)
  one_more zero at v d x now new last u false f h ed e p q = absurd (cc)
  one_more (suc k) at v d x now new last u true f h ed e p q = let n : (suc k == 0) ≡ false = ne_eqb (suc k) 0 (λ z. omega (arith, z)) in absurd (cc)
  one_more (suc k) at v d x now new last u false f h ed e p q =
      let a = number_at dims (suc k) h in
      let b = pieces_from (suc k) x e in
      let n : suc k + 1 ≡ suc (suc k) = omega arith in
      let r = subst (λ i. IsLaid (left_places i v dims pieces) env new last u) n q in
      let p2 = subst (λ i. IsLaid (next_place at i (piece arrays env x)) env now new v) ed p in
      let whole = laid_after (next_place at (get_or dims (suc k) 0) (piece arrays env x)) (λ v. further_places v (drop (suc (suc k)) dims) (drop (suc (suc k)) pieces)) env now new last v u p2 r in
      subst (λ y. IsLaid (further_places at y (drop (suc k) pieces)) env now last u) (sym a ∙ refl)
      (subst (λ y. IsLaid (further_places at (get_or dims (suc k) 0 ∷ drop (suc k + 1) dims) y) env now last u) (sym b)
      (subst (λ i. IsLaid (after (next_place at (get_or dims (suc k) 0) (piece arrays env x)) (λ v. further_places v (drop i dims) (drop i pieces))) env now last u) (sym n) whole))

  pub goes_next : (x : TypedExpr) (old now new : List Instr) (k counter at v d : ℕ) (first : Bool) → first ≡ (counter == 0) → counter < length dims → d ≡ get_or dims counter 0 → slice_get es k ≡ Some x → GoesOn arrays env dims es old k counter at now
      → IsLaid (one_place first at d (piece arrays env x)) env now new v → length new ≤ length now + (4 + expr_price x) → GoesOn arrays env dims es old (k + 1) (counter + 1) v new
  goes_next x old now new k counter at v d first f h ed e g p few =
      let same : counter ≡ k = ⊎_elim (λ i. i) (λ i. absurd (omega (arith, i.0))) g.counted in
      record {
        left = λ last u q. g.left last u (one_more k at v d x now new last u first (f ∙ ap (λ i. i == 0) same) (subst (λ i. i < length dims) same h) (ed ∙ ap (λ i. get_or dims i 0) same) e p q);
        few = omega (arith, g.few, few, price_from es k x e);
        counted = inl (ap (λ i. i + 1) same);
      }

  nothing_left : (at : ℕ) (ds : List ℕ) (ps : List Piece) (now last : List Instr) (u : ℕ) → length ds ≡ 0 → IsLaid (further_places at ds ps) env now last u → IsLaid (no_step at) env now last u
  nothing_left at [] ps now last u h p = p
  nothing_left at (d ∷ ds) ps now last u h p = absurd (omega arith)

  no_more : (at : ℕ) (ds : List ℕ) (ps : List Piece) (now last : List Instr) (u : ℕ) → length ds ≡ 0 → IsLaid (no_step at) env now last u → IsLaid (further_places at ds ps) env now last u
  no_more at [] ps now last u h p = p
  no_more at (d ∷ ds) ps now last u h p = absurd (omega arith)

  skipped : (k at : ℕ) (now last : List Instr) (u : ℕ) → 0 < length dims → length dims ≤ k → IsLaid (left_places (k + 1) at dims pieces) env now last u → IsLaid (left_places k at dims pieces) env now last u
  skipped zero at now last u some le q = absurd (omega arith)
  skipped (suc k) at now last u some le q =
      let n : suc k + 1 ≡ suc (suc k) = omega arith in
      let r = subst (λ i. IsLaid (left_places i at dims pieces) env now last u) n q in
      no_more at (drop (suc k) dims) (drop (suc k) pieces) now last u (past dims (suc k) le) (nothing_left at (drop (suc (suc k)) dims) (drop (suc (suc k)) pieces) now last u (past dims (suc (suc k)) (omega arith)) r)

  pub goes_past : (x : TypedExpr) (old now : List Instr) (k counter at : ℕ) → 0 < length dims → length dims ≤ counter → slice_get es k ≡ Some x → GoesOn arrays env dims es old k counter at now → GoesOn arrays env dims es old (k + 1) counter at now
  goes_past x old now k counter at some le e g =
      let far : length dims ≤ k = ⊎_elim (λ i. omega (arith, i)) (λ i. i.1) g.counted in
      record {
        left = λ last u q. g.left last u (skipped k at now last u some far q);
        few = omega (arith, g.few, price_from es k x e);
        counted = inr (le, omega (arith, far));
      }

  ended : (at : ℕ) (ds : List ℕ) (ps : List Piece) (now : List Instr) → length ps ≡ 0 → IsLaid (further_places at ds ps) env now now at
  ended at [] ps now h = record { steps = sym (append-nil now); value = refl }
  ended at (d ∷ ds) [] now h = record { steps = sym (append-nil now); value = refl }
  ended at (d ∷ ds) (p ∷ ps) now h = absurd (omega arith)

  pub goes_end : (old now : List Instr) (k counter at : ℕ) → 0 < length es → length es ≤ k → GoesOn arrays env dims es old k counter at now → IsLaid (place_laid dims pieces) env old now at
  goes_end old now zero counter at some le g = absurd (omega arith)
  goes_end old now (suc k) counter at some le g = g.left now at (ended at (drop (suc k) dims) (drop (suc k) pieces) now (past pieces (suc k) (omega (arith, length-map es (piece arrays env)))))
