-- Passes one after another keep what each keeps.
use Rattle.std.proofs.Common.{◌≡◌, ◌⊎◌, inl, inr, ℕ, suc, ◌*◌, ◌<◌, ◌≤◌, Bool, true, false, cond, List, [], ◌∷◌, length, drop, get_or, Option, Some, None, refl, sym, ◌∙◌, ap, subst}
use Rattle.std.specs.Prelude.{nat_le}
use Rattle.std.specs.Option.{option_map_or}
use Rattle.std.proofs.lemmas.Bool.{le-leb}
use Rattle.std.proofs.Math.Seq.{drop-cons}
use Rattle.ir.specs.Graphs.{Graph, IsGraph, size}
use Rattle.block_copy.specs.Copied.{copied}
use Rattle.block_fold.specs.Folded.{folded}
use Rattle.block_select.specs.Selected.{selected}
use Rattle.block_pass.specs.Laws.{EachKeepsItself, PassesGoOn, EndsGoBack, MergedGraphsPass, PassesBack}
use Rattle.kernel_graph.specs.declared.passes.Pass.{Pass}
use Rattle.kernel_graph.specs.declared.passes.Pass.TheVariants.{Fold, Merge, Select, Copy}
use Rattle.kernel_graph.specs.Optimized.{pass_of, after_passes, pass_order, is_within, accepted, optimized_within}
use Rattle.kernel_graph.specs.Laws.{OptimizedGraphsPass}

-- ---- what they keep

-- each pass gives what a pass may give
pub record PassesKeep : Type 0 where
  pub itself : EachKeepsItself
  pub on : PassesGoOn
  pub back : EndsGoBack
  pub merges : MergedGraphsPass
  pub folds : (g : Graph) → IsGraph g → PassesBack g (folded g)
  pub selects : (most : ℕ) (g : Graph) → IsGraph g → PassesBack g (selected most g)
  pub copies : (most : ℕ) (g : Graph) → IsGraph g → PassesBack g (copied most g)

module _ (laws : PassesKeep) (most : ℕ) where
  unchanged : (g : Graph) → IsGraph g → PassesBack g g
  unchanged g fine = record { share = laws.itself g fine; back = λ scalars arrays r last more fit e. (more, e) }

  pass_keeps : (p : Pass) (g : Graph) → IsGraph g → PassesBack g (pass_of most p g)
  pass_keeps Fold g fine = laws.folds g fine
  pass_keeps Merge g fine = laws.merges g fine
  pass_keeps Select g fine = laws.selects most g fine
  pass_keeps Copy g fine = laws.copies most g fine

  passes_keep : (ps : List Pass) (g h : Graph) → IsGraph g → after_passes most ps g ≡ Some h → PassesBack g h
  passes_keep [] g h fine e = let z : g ≡ h = cc in subst (PassesBack g) z (unchanged g fine)
  passes_keep (p ∷ ps) g h fine e = by (nat_le (size g) 8000000) e (λ i f z. passes_keep ps i h f z)
    where
      by : (b : Bool) → cond b (after_passes most ps (pass_of most p g)) None ≡ Some h → ((i : Graph) → IsGraph i → after_passes most ps i ≡ Some h → PassesBack i h) → PassesBack g h
      by true z rest =
          let i = pass_of most p g in
          let one = pass_keeps p g fine in
          let two = rest i one.share.fine z in
          record { share = laws.on g i h one.share two.share; back = laws.back g i h one.share one.back two.back }
      by false z rest = absurd (cc)

  within_keeps : (g : Graph) → IsGraph g → PassesBack g (optimized_within most g)
  within_keeps g fine = by (after_passes most pass_order g) refl
    where
      chosen : (h : Graph) → PassesBack g h → (b : Bool) → PassesBack g (cond b h g)
      chosen h share true = share
      chosen h share false = unchanged g fine

      by : (o : Option Graph) → after_passes most pass_order g ≡ o → PassesBack g (option_map_or (accepted most g) o g)
      by None e = unchanged g fine
      by (Some h) e = chosen h (passes_keep pass_order g h fine e) (is_within most h)

pub optimized_passes : PassesKeep → OptimizedGraphsPass
optimized_passes laws n g fine = within_keeps laws (10 * n) g fine

-- ---- the loop

pub none_passed : (most i : ℕ) (ps : List Pass) (g first : Graph) → i < length ps → nat_le (size g) 8000000 ≡ false → after_passes most (drop i ps) g ≡ after_passes most ps first → None ≡ after_passes most ps first
none_passed most i ps g first lt small e =
    let d : drop i ps ≡ get_or ps i Fold ∷ drop (suc i) ps = drop-cons ps i Fold lt in
    let z : after_passes most (drop i ps) g ≡ None =
    ap (λ l. after_passes most l g) d ∙ ap (λ b. cond b (after_passes most (drop (suc i) ps) (pass_of most (get_or ps i Fold) g)) None) small in
    sym z ∙ e

-- ---- the last test

abbrev later : List Pass
later = Merge ∷ Select ∷ Copy ∷ Merge ∷ Fold ∷ Select ∷ Merge ∷ Fold ∷ Merge ∷ []

module _ (most : ℕ) (g f : Graph) (o : Option Graph) (small : size g ≤ 8000000) (first : f ≡ pass_of most Fold g) (made : o ≡ after_passes most later f) where
  all_are : after_passes most pass_order g ≡ o
  all_are =
      let e : nat_le (size g) 8000000 ≡ true = le-leb (size g) 8000000 small in
      ap (λ b. cond b (after_passes most later (folded g)) None) e ∙ (ap (after_passes most later) (sym first) ∙ sym made)

  pub taken : (h : Graph) → o ≡ Some h → is_within most h ≡ true → h ≡ optimized_within most g
  taken h is within = sym (ap (λ p. option_map_or (accepted most g) p g) (all_are ∙ is) ∙ ap (λ b. cond b h g) within)

  pub refused : (h : Graph) → o ≡ Some h → is_within most h ≡ false → g ≡ optimized_within most g
  refused h is past = sym (ap (λ p. option_map_or (accepted most g) p g) (all_are ∙ is) ∙ ap (λ b. cond b h g) past)

  pub stopped : o ≡ None → g ≡ optimized_within most g
  stopped is = sym (ap (λ p. option_map_or (accepted most g) p g) (all_are ∙ is))

-- what the passes make is within the bounds, or it is the graph itself
pub within_or_same : (most : ℕ) (g : Graph) → (is_within most (optimized_within most g) ≡ true) ⊎ (optimized_within most g ≡ g)
within_or_same most g = by (after_passes most pass_order g)
  where
    chosen : (h : Graph) (b : Bool) → is_within most h ≡ b → (is_within most (cond b h g) ≡ true) ⊎ (cond b h g ≡ g)
    chosen h true e = inl e
    chosen h false e = inr refl

    by : (o : Option Graph) → (is_within most (option_map_or (accepted most g) o g) ≡ true) ⊎ (option_map_or (accepted most g) o g ≡ g)
    by None = inr refl
    by (Some h) = chosen h (is_within most h) refl
