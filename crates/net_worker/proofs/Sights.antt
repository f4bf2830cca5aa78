-- A firing in the state that a worker holds is the firing in its state after its log.
use Rattle.std.proofs.Common.{◌≡◌, ◌⊎◌, inl, inr, ℕ, ◌<◌, ◌≤◌, List, [], ◌∷◌, length, get_or, ap, ◌∙◌, sym, arith}
use Rattle.std.specs.List.{AllByRecursion}
use Rattle.std.proofs.lemmas.Bool.{cases_lt}
use Rattle.std.proofs.lemmas.List.{get_or_past}
use Rattle.net_types.specs.Nets.{into, chan_at, kind_of, uses}
use Rattle.net_core.specs.Fire.{applied, tokens_at, head_at, first, idle, at_array, added, counted, taken, puts_on, takes_from, moved}
use Rattle.net_core.proofs.ApartLemmas.{is_at-inv, into-at}
use Rattle.net_core.specs.Uses.{used}
use Rattle.net_worker.specs.Merge.{Alike}
use Rattle.net_worker.specs.Sights.{SeesFires}
use Rattle.net_worker.proofs.Moves.{tokens_after, changed_past}
use Rattle.net_worker.proofs.Steps.{alike_mine, same_effect, measures_after}

all_unit : (ps : List ℕ) → AllByRecursion (λ p. Unit {0}) ps
all_unit [] = tt
all_unit (p ∷ ps) = (tt, all_unit ps)

pub sees_fires : SeesFires
sees_fires net owner n j f e s s' t ms mt mine v is made = record {
  does = same_effect net owner j f e t s (λ p. Unit {0}) mine back is (all_unit (used net s f)) (λ p h. head p (cases_lt (into f.unit p net.chans) (length net.chans)));
  sees = record {
    scalars = v.scalars ∙ sym made.scalars;
    own = λ u q. later.own u q ∙ ap (λ l. get_or l u idle) (sym made.own);
    arrays = λ u q. later.arrays u q ∙ ap (λ l. at_array l (uses (kind_of net u))) (sym made.arrays);
    into = λ c q. channel c (cases_lt c (length net.chans)) (v.into c q) ∙ sym (made.into c q);
    out = made.out;
    arrays_long = (measures_after net n f.unit e t mt).arrays ∙ (sym (measures_after net n f.unit e s ms).arrays ∙ ap length (sym made.arrays));
    strays = ap (counted (uses (kind_of net f.unit)) e.strays) v.strays ∙ sym made.strays;
  };
}
  where
    forth : Alike net owner j s t
    forth = record { scalars = v.scalars; own = v.own; arrays = v.arrays; inner = λ c p q. v.into c q }

    back : Alike net owner j t s
    back = record { scalars = sym v.scalars; own = λ u q. sym (v.own u q); arrays = λ u q. sym (v.arrays u q); inner = λ c p q. sym (v.into c q) }

    later : Alike net owner j (applied net f.unit e s) (applied net f.unit e t)
    later = alike_mine net owner n j f.unit e s t ms mt forth

    head : (p : ℕ) → (into f.unit p net.chans < length net.chans) ⊎ (length net.chans ≤ into f.unit p net.chans) → head_at net t f.unit p ≡ head_at net s f.unit p
    head p (inl l) =
        let at = (is_at-inv (chan_at net (into f.unit p net.chans)).to f.unit p (into-at f.unit p net.chans l)).0 in
        ap first (v.into (into f.unit p net.chans) (ap owner at ∙ mine))
    head p (inr l) =
        ap first (get_or_past t.tokens (into f.unit p net.chans) [] (omega (arith, mt.tokens)) ∙ sym (get_or_past s.tokens (into f.unit p net.chans) [] (omega (arith, ms.tokens))))

    channel : (c : ℕ) → (c < length net.chans) ⊎ (length net.chans ≤ c) → tokens_at t c ≡ tokens_at s c → tokens_at (applied net f.unit e t) c ≡ tokens_at (applied net f.unit e s) c
    channel c (inl l) h =
        let lt : c < length t.tokens = omega (arith, mt.tokens) in
        let ls : c < length s.tokens = omega (arith, ms.tokens) in
        tokens_after net f.unit e t c lt ∙ (ap (λ x. added (puts_on net f.unit e.put c) (taken (takes_from net f.unit e c) x)) h ∙ sym (tokens_after net f.unit e s c ls))
    channel c (inr l) h =
        let lt : length t.tokens ≤ c = omega (arith, mt.tokens) in
        let ls : length s.tokens ≤ c = omega (arith, ms.tokens) in
        changed_past (moved net f.unit e) t.tokens c lt ∙ (h ∙ sym (changed_past (moved net f.unit e) s.tokens c ls))
