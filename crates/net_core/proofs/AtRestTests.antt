-- Tests that tell of a worked state that it is at rest.
use Rattle.std.proofs.Common.{◌≡◌, ◌⊎◌, ℕ, zero, suc, ◌<◌, ◌==◌, ◌&&◌, ◌||◌, not, Bool, true, false, None, Some, List, [], ◌∷◌, length, get_or, refl, sym, ap, ◌∙◌, inl, inr, arith, eqb-true}
use Rattle.std.proofs.lemmas.Bool.{and_parts, cases_eq, cases_lt}
use Rattle.std.proofs.lemmas.List.{get_or_past}
use Rattle.net_types.specs.declared.net.Chan.{Chan}
use Rattle.net_types.specs.declared.net.Net.{Net}
use Rattle.net_types.specs.declared.net.Unit.{Unit as Kind}
use Rattle.net_types.specs.declared.net.Unit.TheVariants.{Sink}
use Rattle.net_types.specs.declared.firing.Act.{Act}
use Rattle.net_types.specs.Nets.{into, nowhere, chan_at, firing, kind_of, uses}
use Rattle.lsq_core.specs.declared.entry.Entry.{Entry}
use Rattle.lsq_core.specs.Acts.{is_nil}
use Rattle.net_core.specs.Fire.{State, Own, setting, idle, at_array, first, tokens_at, head_at, effect}
use Rattle.net_core.specs.Runs.{AtRest}
use Rattle.net_core.specs.Laws.{starts}
use Rattle.net_core.proofs.ApartLemmas.{into-at, is_at-inv}
use Rattle.net_core.proofs.GoesLemmas.{goes}
use Rattle.net_core.proofs.RestLemmas.{row_none, spent_is_at_rest}

-- ---- tests of lists

abbrev no_tokens : List ℕ → Bool
no_tokens [] = true
no_tokens (x ∷ xs) = false

-- each channel but those to the unit w is without tokens
abbrev pub waits_only : ℕ → List Chan → List (List ℕ) → Bool
waits_only w [] xss = true
waits_only w (c ∷ cs) [] = true
waits_only w (c ∷ cs) (xs ∷ xss) = ((c.to.unit == w) || no_tokens xs) && waits_only w cs xss

waits_inv : (w : ℕ) (cs : List Chan) (xss : List (List ℕ)) → waits_only w cs xss ≡ true → (c : ℕ) → c < length cs → ((get_or cs c nowhere).to.unit ≡ w → ⊥) → get_or xss c [] ≡ []
waits_inv w [] xss e c l n = absurd (omega arith)
waits_inv w (x ∷ cs) [] e c l n = refl
waits_inv w (x ∷ cs) (xs ∷ xss) e zero l n = by (x.to.unit == w) refl xs (and_parts _ _ e).0
  where
    by : (b : Bool) → (x.to.unit == w) ≡ b → (xs : List ℕ) → (b || no_tokens xs) ≡ true → xs ≡ []
    by true i xs h = absurd (n (eqb-true _ _ i))
    by false i [] h = refl
    by false i (y ∷ ys) h = cc
waits_inv w (x ∷ cs) (xs ∷ xss) e (suc c) l n = waits_inv w cs xss (and_parts _ _ e).1 c (omega arith) n

-- no queue has an entry
abbrev pub no_entries_in : List Own → Bool
no_entries_in [] = true
no_entries_in (o ∷ os) = is_nil o.queue.items && no_entries_in os

entries_inv : (os : List Own) → no_entries_in os ≡ true → (u : ℕ) → (get_or os u idle).queue.items ≡ []
entries_inv [] e u = refl
entries_inv (o ∷ os) e zero = by o.queue.items (and_parts _ _ e).0
  where
    by : (is : List Entry) → is_nil is ≡ true → is ≡ []
    by [] h = refl
    by (x ∷ is) h = cc
entries_inv (o ∷ os) e (suc u) = entries_inv os (and_parts _ _ e).1 u

-- the entry and the parameters have fired
abbrev pub all_started : List Kind → List Own → Bool
all_started [] os = true
all_started (k ∷ ks) [] = not (starts k) && all_started ks []
all_started (k ∷ ks) (o ∷ os) = (not (starts k) || o.fired) && all_started ks os

started_inv : (ks : List Kind) (os : List Own) → all_started ks os ≡ true → (u : ℕ) → starts (get_or ks u (Sink 0)) ≡ true → (get_or os u idle).fired ≡ true
started_inv [] os e u s = cc
started_inv (k ∷ ks) [] e zero s = let n : not (starts k) ≡ true = (and_parts (not (starts k)) (all_started ks []) e).0 in let m : not true ≡ true = rw s at n in cc
started_inv (k ∷ ks) [] e (suc u) s = started_inv ks [] (and_parts _ _ e).1 u s
started_inv (k ∷ ks) (o ∷ os) e zero s = let n : (not (starts k) || o.fired) ≡ true = (and_parts (not (starts k) || o.fired) (all_started ks os) e).0 in rw s at n
started_inv (k ∷ ks) (o ∷ os) e (suc u) s = started_inv ks os (and_parts _ _ e).1 u s

-- ---- rest where tokens wait at one unit alone

no_head : (net : Net) (s : State) (u q : ℕ) → length s.tokens ≡ length net.chans → ((c : ℕ) → c < length net.chans → (chan_at net c).to.unit ≡ u → tokens_at s c ≡ []) → head_at net s u q ≡ None
no_head net s u q long none = elim (cases_lt (into u q net.chans) (length net.chans)) [
  | inl l ↦ ap first (none (into u q net.chans) l (is_at-inv (chan_at net (into u q net.chans)).to u q (into-at u q net.chans l)).0)
  | inr l ↦ ap first (get_or_past s.tokens (into u q net.chans) [] (omega arith))
]

-- tokens wait at the unit w alone, which none of its acts can take
pub record WaitsAt (net : Net) (s : State) (w : ℕ) : Type 0 where
  pub long : length s.tokens ≡ length net.chans
  pub tokens : waits_only w net.chans s.tokens ≡ true
  pub entries : no_entries_in s.own ≡ true
  pub started : all_started net.units s.own ≡ true
  pub stuck : (act : Act) → effect net s (firing w act) ≡ None

pub waits_at_rest : (net : Net) (s : State) (w : ℕ) → WaitsAt net s w → AtRest net s
waits_at_rest net s w waits f h =
    let g = goes net s f h in
    let y : None ≡ Some g.0 = sym (none (cases_eq f.unit w)) ∙ g.1.is in cc
  where
    none : (f.unit ≡ w) ⊎ (f.unit ≡ w → ⊥) → effect net s f ≡ None
    none (inl e) = ap (λ u. effect net s (firing u f.act)) e ∙ waits.stuck f.act
    none (inr n) =
        row_none (kind_of net f.unit) f.act (get_or s.own f.unit idle) (at_array s.arrays (uses (kind_of net f.unit))) (setting net s) (head_at net s f.unit)
        (started_inv net.units s.own waits.started f.unit) (entries_inv s.own waits.entries f.unit)
        (λ q. no_head net s f.unit q waits.long (λ c l e. waits_inv w net.chans s.tokens waits.tokens c l (λ x. n (sym e ∙ x))))

-- ---- rest where no tokens wait

abbrev pub none_waits : List (List ℕ) → Bool
none_waits [] = true
none_waits (xs ∷ xss) = no_tokens xs && none_waits xss

none_inv : (xss : List (List ℕ)) → none_waits xss ≡ true → (c : ℕ) → get_or xss c [] ≡ []
none_inv [] e c = refl
none_inv (xs ∷ xss) e zero = by xs (and_parts _ _ e).0
  where
    by : (xs : List ℕ) → no_tokens xs ≡ true → xs ≡ []
    by [] h = refl
    by (y ∷ ys) h = cc
none_inv (xs ∷ xss) e (suc c) = none_inv xss (and_parts _ _ e).1 c

pub tests_at_rest : (net : Net) (s : State) → none_waits s.tokens ≡ true → no_entries_in s.own ≡ true → all_started net.units s.own ≡ true → AtRest net s
tests_at_rest net s tokens entries begun =
    spent_is_at_rest net s (record { tokens = none_inv s.tokens tokens; entries = entries_inv s.own entries; started = started_inv net.units s.own begun })
