-- The laws of replays and of the plain runner.
use Rattle.std.proofs.Common.{◌≡◌, ℕ, suc, ◌≤◌, ◌∙◌, List, [], ◌∷◌, ◌++◌, length, refl, sym, ap, subst, arith, length-append}
use Rattle.net_types.specs.declared.net.Net.{Net}
use Rattle.net_types.specs.declared.firing.Firing.{Firing}
use Rattle.net_types.specs.declared.firing.Inputs.{Inputs}
use Rattle.net_check.specs.Checks.{IsChecked}
use Rattle.net_core.specs.Fire.{State, enabled, after}
use Rattle.net_core.specs.Runs.{opening, Leads, Run, AtRest, Long}
use Rattle.net_core.specs.Laws.{Completion, LimitIsLong, RestIsNotLong}
use Rattle.net_replay.specs.declared.runner.Ended.TheVariants.{Rest, Limit}
use Rattle.net_replay.specs.Laws.{OneAnswer, OneEnd, LimitIsOfTheNet, AgreesWith}
use Rattle.net_replay.proofs.PathLemmas.{leads_on, leads_more}

-- ---- one answer

-- firings that fail after some are no list that is enabled
held_back : (net : Net) (s : State) (before : List Firing) (f : Firing) (more : List Firing) (to t : State) → Leads net s before to → (enabled net to f → ⊥)
    → Leads net s (before ++ f ∷ more) t → ⊥
held_back net s [] f more to t l held r = let P : State → Type 0 = λ x. enabled net x f in held (subst P l r.0)
held_back net s (g ∷ before) f more to t l held r = held_back net (after net s g) before f more to t l.1 held r.1

-- and fail there alone
one_place : (net : Net) (s : State) (b c : List Firing) (f g : Firing) (bs cs : List Firing) (t u : State) → Leads net s b t → (enabled net t f → ⊥) → Leads net s c u → (enabled net u g → ⊥)
    → b ++ f ∷ bs ≡ c ++ g ∷ cs → length c ≡ length b
one_place net s [] [] f g bs cs t u lb fb lc gc e = refl
one_place net s [] (x ∷ c) f g bs cs t u lb fb lc gc e =
    let is : f ≡ x = cc in
    let P : State → Type 0 = λ y. enabled net y f in
    let Q : Firing → Type 0 = λ y. enabled net s y in
    absurd (fb (subst P lb (subst Q (sym is) lc.0)))
one_place net s (x ∷ b) [] f g bs cs t u lb fb lc gc e =
    let is : g ≡ x = cc in
    let P : State → Type 0 = λ y. enabled net y g in
    let Q : Firing → Type 0 = λ y. enabled net s y in
    absurd (gc (subst P lc (subst Q (sym is) lb.0)))
one_place net s (x ∷ b) (y ∷ c) f g bs cs t u lb fb lc gc e =
    let is : y ≡ x = cc in
    let P : Firing → Type 0 = λ z. Leads net (after net s z) c u in
    let rest : b ++ f ∷ bs ≡ c ++ g ∷ cs = cc in
    ap suc (one_place net (after net s x) b c f g bs cs t u lb.1 fb (subst P is lc.1) gc rest)

pub one_answer : OneAnswer
one_answer net inputs firings number h = record {
  no_run = λ to r.
      let P : List Firing → Type 0 = λ fs. Leads net (opening net inputs) fs to in
      held_back net (opening net inputs) h.before h.next h.more h.to to h.leads h.held (subst P h.whole r);
  one = λ other k.
      k.counted ∙ one_place net (opening net inputs) h.before k.before h.next k.next h.more k.more h.to k.to h.leads h.held k.leads k.held (sym h.whole ∙ k.whole) ∙ sym h.counted;
}

-- ---- one end

module _ (completion : Completion) (long : LimitIsLong) (short : RestIsNotLong) where
  rested : (net : Net) (inputs : Inputs) (firings both : List Firing) (t to : State) (limit made : ℕ) → IsChecked net
      → Run net inputs firings t → AtRest net t → Run net inputs both to → AtRest net to → made ≡ length both → made ≤ limit
      → AgreesWith (length firings) t limit to (Rest made)
  rested net inputs firings both t to limit made checked run rest r at is l =
      let w = (completion net inputs firings t checked run rest).at_rest both to r at in
      let n : made ≡ length firings = is ∙ w.1 in
      record {
        rests = λ k. (ap Rest n, w.0);
        cut = λ k. absurd (omega arith);
      }

  limited : (net : Net) (inputs : Inputs) (firings both : List Firing) (t to : State) (limit : ℕ) (f : Firing) → IsChecked net
      → Run net inputs firings t → AtRest net t → Run net inputs both to → enabled net to f → length both ≡ limit
      → AgreesWith (length firings) t limit to Limit
  limited net inputs firings both t to limit f checked run rest r e is =
      let longer : length (both ++ f ∷ []) ≤ length firings =
      (completion net inputs firings t checked run rest).longest (both ++ f ∷ []) (after net to f) (leads_more net (opening net inputs) both to f (after net to f) r e refl) in
      record {
        rests = λ k. absurd (omega (arith, longer, length-append both (f ∷ [])));
        cut = λ k. refl;
      }

  pub one_end : OneEnd
  one_end net inputs firings before more t s to limit (Rest made) checked run rest r h =
      let both = leads_on net (opening net inputs) before more s to r h.leads in
      rested net inputs firings (before ++ more) t to limit made checked run rest both h.ends.rest (h.ends.counted ∙ sym (length-append before more)) h.ends.within
  one_end net inputs firings before more t s to limit Limit checked run rest r h =
      let both = leads_on net (opening net inputs) before more s to r h.leads in
      limited net inputs firings (before ++ more) t to limit h.ends.next checked run rest both h.ends.goes (length-append before more ∙ h.ends.reached)

  pub limit_is_of_the_net : LimitIsOfTheNet
  limit_is_of_the_net net inputs before more s to limit (Rest made) checked r h =
      let both = leads_on net (opening net inputs) before more s to r h.leads in
      let l : length (before ++ more) ≤ limit = omega (arith, h.ends.counted, h.ends.within, length-append before more) in
      ((λ e. cc), (λ k. absurd (short net inputs (before ++ more) to limit checked both h.ends.rest l k)))
  limit_is_of_the_net net inputs before more s to limit Limit checked r h =
      let both = leads_on net (opening net inputs) before more s to r h.leads in
      let P : ℕ → Type 0 = λ n. Long net inputs n in
      ((λ e. subst P (length-append before more ∙ h.ends.reached) (long net inputs (before ++ more) to h.ends.next both h.ends.goes)), (λ k. refl))
