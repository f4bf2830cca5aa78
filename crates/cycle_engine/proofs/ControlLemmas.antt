-- The channel that is noted: each control token at a control merge or a queue is on it, so one of its acts there is tried.
use Rattle.std.proofs.Common.{◌≡◌, ◌≢◌, ℕ, ◌<◌, ◌≤◌, suc, Bool, true, false, cond, Option, Some, None, List, [], ◌∷◌, length, get_or, refl, sym, ap, subst, ◌∙◌, arith, eq-eqb, ne_eqb, ltb-true, length-append}
use Rattle.std.specs.Cmp.Derive.{both_true}
use Rattle.std.proofs.lemmas.Bool.{and_parts, lt-ltb}
use Rattle.net_types.specs.declared.net.Net.{Net}
use Rattle.net_types.specs.declared.net.Unit.{Unit as Kind}
use Rattle.net_types.specs.declared.net.Unit.TheVariants.{Cmerge, Lsq}
use Rattle.net_types.specs.declared.firing.Act.{Act}
use Rattle.net_types.specs.declared.firing.Act.TheVariants.{From, Alloc, End}
use Rattle.net_types.specs.declared.firing.Firing.{Firing}
use Rattle.net_types.specs.Nets.{into, out_of, kind_of, uses, chan_at, firing}
use Rattle.net_types.specs.Order.{act_rank, act_number}
use Rattle.net_check.specs.Checks.{IsChecked}
use Rattle.net_check.specs.Controls.{ctl_in, ctl_out}
use Rattle.net_core.specs.declared.plan.Moves.{Moves}
use Rattle.net_core.specs.declared.plan.Plan.{Plan}
use Rattle.net_core.specs.declared.plan.Put.{Put}
use Rattle.net_core.specs.Fire.{State, Effect, idle, setting, at_array, head_at, tokens_at, first, enabled, moved, applied, after_effect, puts_on, takes_from, added, taken}
use Rattle.net_core.specs.Plans.{laid_of, moves_of}
use Rattle.net_core.specs.States.{state_of, IsPlanOf}
use Rattle.net_core.proofs.Premises.{Steers}
use Rattle.net_core.proofs.CheckedLemmas.{premises_of}
use Rattle.net_core.proofs.RowLemmas.{get-changed}
use Rattle.net_core.proofs.AccountLemmas.{is_fork}
use Rattle.net_core.proofs.ApartLemmas.{into-at, is_at-inv}
use Rattle.net_core.proofs.GoesLemmas.{goes}
use Rattle.net_core.proofs.ActLemmas.{merge_inv, from_kind, alloc_kind, end_kind}
use Rattle.net_core.proofs.CountLemmas.{early_none, ctl_within}
use Rattle.net_core.proofs.QueueActLemmas.{queue_inv, lsq_is, group_within}
use Rattle.net_core.proofs.RegularLemmas.{IsRegular, regular_kept}
use Rattle.net_core.proofs.TakerLemmas.{IsHeld, counted_head, one_held}
use Rattle.cycle_engine.specs.declared.engine.Engine.{Engine}
use Rattle.cycle_engine.specs.declared.engine.Bounds.{Bounds}
use Rattle.cycle_engine.specs.Cycles.{Dated, May}
use Rattle.cycle_engine.specs.private.Trials.{dated_of}
use Rattle.cycle_engine.specs.private.Control.{HasControl, control_places_in, groups_in, leads_to_control_place, control_after, noted_place}
use Rattle.cycle_engine.specs.private.Goings.{Past, InCycle}
use Rattle.cycle_engine.specs.private.Places.{KeepsControl, TakesControl, takes_at}
use Rattle.cycle_engine.proofs.MakeLemmas.{Makes1}
use Rattle.cycle_engine.proofs.NoteLemmas.{effect_in, after_is}
use Rattle.cycle_engine.proofs.PlaceLemmas.{act_is}
use Rattle.cycle_engine.proofs.QueueTurnLemmas.{laws}
use Rattle.cycle_engine.proofs.TurnLemmas.{going_regular}

-- ---- control tokens at places at which acts take them

control_kind : (k : Kind) (p : ℕ) → p < control_places_in k → (i o : ℕ → Bool) → Steers k i o → (is_fork k ≡ false) × (i p ≡ true)
control_kind (Cmerge ins) p l i o st = (refl, st.0 p l)
control_kind (Lsq a d ps gs fw) p l i o st = (refl, st.0 p (omega arith))
control_kind _ p l i o st = absurd (omega arith)

control_fork : (k : Kind) (p : ℕ) → p < control_places_in k → is_fork k ≡ false
control_fork (Cmerge ins) p l = refl
control_fork (Lsq a d ps gs fw) p l = refl
control_fork _ p l = absurd (omega arith)

-- a head at such a place counts, and its channel leads there
pub control_held : (net : Net) (s : State) (u p v : ℕ) → IsChecked net → IsRegular net s → p < control_places_in (kind_of net u) → head_at net s u p ≡ Some v
    → IsHeld net s (into u p net.chans) × (leads_to_control_place net (into u p net.chans) ≡ true)
control_held net s u p v checked good l h =
    let k = control_kind (kind_of net u) p l (ctl_in net u) (ctl_out net u) ((premises_of net laws checked).steered u) in
    let held = counted_head net s u p v good k.0 k.1 h in
    let end = is_at-inv (chan_at net (into u p net.chans)).to u p (into-at u p net.chans held.within) in
    let m : (chan_at net (into u p net.chans)).to.place < control_places_in (kind_of net (chan_at net (into u p net.chans)).to.unit) = (let a = end.1 in let b = ap (λ v. control_places_in (kind_of net v)) end.0 in omega arith) in
    (held, both_true k.1 (lt-ltb _ _ m))

-- so does a token on a channel that leads to such a place
chan_held : (net : Net) (s : State) (d : ℕ) → leads_to_control_place net d ≡ true → 1 ≤ length (tokens_at s d) → IsHeld net s d
chan_held net s d lead n =
    let w = and_parts (chan_at net d).ctl _ lead in
    let z = early_none (kind_of net (chan_at net d).to.unit) (get_or s.own (chan_at net d).to.unit idle) (control_fork (kind_of net (chan_at net d).to.unit) (chan_at net d).to.place (ltb-true _ _ w.1)) in
    record { within = ctl_within net.chans d w.0; counts = rw (w.0, z) (omega arith) }

-- ---- a token is put

first_taken : (b : Bool) (xs : List ℕ) (v : ℕ) → first (taken b xs) ≡ Some v → (y : ℕ) × (first xs ≡ Some y)
first_taken true [] v e = cc
first_taken false [] v e = cc
first_taken true (x ∷ xs) v e = (x, refl)
first_taken false (x ∷ xs) v e = (x, refl)

added_some : (o : Option ℕ) (v : ℕ) (xs : List ℕ) → o ≡ Some v → 1 ≤ length (added o xs)
added_some None v xs e = cc
added_some (Some x) v xs e = let n = length-append xs (x ∷ []) in omega arith

-- the channel that is noted then serves, where the one noted before did
control_kept : (net : Net) (s : State) (u : ℕ) (e : Effect) (noted : ℕ) → IsChecked net → length s.tokens ≡ length net.chans → IsRegular net (applied net u e s) → HasControl net s noted
    → HasControl net (applied net u e s) (control_after net (laid_of net u e.put) noted)
control_kept net s u e noted checked long good before w g v l h = by e.put refl
  where
    held : IsHeld net (applied net u e s) (into w g net.chans) × (leads_to_control_place net (into w g net.chans) ≡ true)
    held = control_held net (applied net u e s) w g v checked good l h

    tokens : (d : ℕ) → d < length net.chans → tokens_at (applied net u e s) d ≡ moved net u e d (tokens_at s d)
    tokens d m = get-changed (moved net u e) 0 s.tokens d d (omega arith) (omega arith)

    -- the token was there before
    was : puts_on net u e.put (into w g net.chans) ≡ None → into w g net.chans ≡ noted
    was none =
        let f : first (added None (taken (takes_from net u e (into w g net.chans)) (tokens_at s (into w g net.chans)))) ≡ Some v =
        ap (λ o. first (added o (taken (takes_from net u e (into w g net.chans)) (tokens_at s (into w g net.chans))))) (sym none) ∙ (ap first (sym (tokens (into w g net.chans) held.0.within)) ∙ h) in
        let y = first_taken (takes_from net u e (into w g net.chans)) (tokens_at s (into w g net.chans)) v f in
        before w g y.0 l y.1

    by : (o : Option Put) → e.put ≡ o → into w g net.chans ≡ control_after net (laid_of net u o) noted
    by None i = was (ap (λ o. puts_on net u o (into w g net.chans)) i)
    by (Some p) i = at (leads_to_control_place net (out_of u p.place net.chans)) refl
      where
        at : (b : Bool) → leads_to_control_place net (out_of u p.place net.chans) ≡ b → into w g net.chans ≡ cond b (out_of u p.place net.chans) noted
        at true lead =
            let d : ℕ = out_of u p.place net.chans in
            let m : d < length net.chans = ctl_within net.chans d (and_parts (chan_at net d).ctl _ lead).0 in
            let q : puts_on net u e.put d ≡ Some p.value = ap (λ o. puts_on net u o d) i ∙ ap (λ b. cond b (Some p.value) None) (eq-eqb d d refl) in
            let n = added_some (puts_on net u e.put d) p.value (taken (takes_from net u e d) (tokens_at s d)) q in
            let t = ap length (tokens d m) in
            one_held net (applied net u e s) (into w g net.chans) d good held.0 (chan_held net (applied net u e s) d lead (omega arith))
        at false lead = was (ap (λ o. puts_on net u o (into w g net.chans)) i ∙ ap (λ b. cond b (Some p.value) None) (ne_eqb _ _ apart))
          where
            apart : into w g net.chans ≢ out_of u p.place net.chans
            apart z = let q : true ≡ false = sym held.1 ∙ (ap (leads_to_control_place net) z ∙ lead) in cc

-- so after a firing
pub control_made : (net : Net) (past : Past) (b : Bounds) (c : ℕ) (start : Dated) (old new : Engine) (f : Firing) (p : Plan) (m : Moves) → IsChecked net → IsPlanOf net old.state f (Some p) → m ≡ moves_of net f.unit p
    → InCycle net past b c start old → May net c start (dated_of old) f → Makes1 net b c old new f m → HasControl net (state_of new.state) new.control
control_made net past b c start old new f p m checked is s going may one =
    let good : IsRegular net (state_of old.state) = going_regular net past b c start old checked going in
    let x : Effect = effect_in net old f p in
    let st : state_of new.state ≡ applied net f.unit x (state_of old.state) = ap (λ (d : Dated). d.state) (after_is net c old new f p is one.after) in
    let then_good : IsRegular net (applied net f.unit x (state_of old.state)) =
    (let R : State → Type 0 = IsRegular net in subst R (ap (after_effect net (state_of old.state) f.unit) (sym is)) (regular_kept net (premises_of net laws checked) (state_of old.state) f good may.turn)) in
    let k : HasControl net (applied net f.unit x (state_of old.state)) (control_after net (laid_of net f.unit p.put) old.control) = control_kept net (state_of old.state) f.unit x old.control checked good.long then_good going.control in
    let e : new.control ≡ control_after net (laid_of net f.unit p.put) old.control = one.control ∙ ap (λ (y : Moves). control_after net y.laid old.control) s in
    let P : ℕ → Type 0 = HasControl net (applied net f.unit x (state_of old.state)) in
    let Q : State → Type 0 = λ t. HasControl net t new.control in
    subst Q (sym st) (subst P (sym e) k)

-- ---- acts that take the control token

-- a token at a place of a unit whose tokens are taken by acts with a place each
record HasToken (net : Net) (s : State) (u p : ℕ) : Type 0 where
  pub value : ℕ
  pub within : p < control_places_in (kind_of net u)
  pub head : head_at net s u p ≡ Some value

module _ (net : Net) (s : State) (u : ℕ) where
  from_token : (j : ℕ) → enabled net s (firing u (From j)) → HasToken net s u j
  from_token j n =
      let g = goes net s (firing u (From j)) n in
      let k = from_kind (kind_of net u) j (get_or s.own u idle) (at_array s.arrays (uses (kind_of net u))) (setting net s) (head_at net s u) g.0 g.1.is in
      let m = merge_inv net s u k.0 (From j) k.1 g.0 g.1.is in
      let e : j ≡ m.0 = (let q : From j ≡ From m.0 = m.1 in cc) in
      let c : control_places_in (kind_of net u) ≡ k.0 = ap control_places_in k.1 in
      let l = m.2 in
      record { value = m.3; within = omega arith; head = ap (head_at net s u) e ∙ m.4 }

  alloc_token : (j : ℕ) → enabled net s (firing u (Alloc j)) → HasToken net s u j
  alloc_token j n =
      let g = goes net s (firing u (Alloc j)) n in
      let k = alloc_kind (kind_of net u) j (get_or s.own u idle) (at_array s.arrays (uses (kind_of net u))) (setting net s) (head_at net s u) g.0 g.1.is in
      let i = queue_inv k.depth k.ports k.groups (Alloc j) (get_or s.own u idle) (get_or s.arrays k.array []) (head_at net s u) g.0 (sym (lsq_is net u k.array k.depth k.ports k.groups k.mark k.is s (Alloc j)) ∙ g.1.is) in
      let m : j < length k.groups = group_within k.depth k.groups (get_or s.own u idle).queue j i.1 in
      let c : control_places_in (kind_of net u) ≡ suc (length k.groups) = ap control_places_in k.is in
      record { value = i.0; within = omega arith; head = i.2 }

  end_token : enabled net s (firing u End) → HasToken net s u (groups_in (kind_of net u))
  end_token n =
      let g = goes net s (firing u End) n in
      let k = end_kind (kind_of net u) (get_or s.own u idle) (at_array s.arrays (uses (kind_of net u))) (setting net s) (head_at net s u) g.0 g.1.is in
      let i = queue_inv k.depth k.ports k.groups End (get_or s.own u idle) (get_or s.arrays k.array []) (head_at net s u) g.0 (sym (lsq_is net u k.array k.depth k.ports k.groups k.mark k.is s End) ∙ g.1.is) in
      let e : groups_in (kind_of net u) ≡ length k.groups = ap groups_in k.is in
      let c : control_places_in (kind_of net u) ≡ suc (length k.groups) = ap control_places_in k.is in
      record { value = i.0; within = omega arith; head = ap (head_at net s u) e ∙ i.2 }

  -- an act that takes the token at a place finds it there
  token_by : (a : Act) (p : ℕ) → takes_at (kind_of net u) a ≡ Some p → enabled net s (firing u a) → HasToken net s u p
  token_by (From j) p i n = let e : j ≡ p = cc in subst (HasToken net s u) e (from_token j n)
  token_by (Alloc j) p i n = let e : j ≡ p = cc in subst (HasToken net s u) e (alloc_token j n)
  token_by End p i n = let e : groups_in (kind_of net u) ≡ p = cc in subst (HasToken net s u) e (end_token n)
  token_by _ p i n = cc

-- a token at such a place is where the noted channel leads to
place_noted : (net : Net) (s : State) (u p noted : ℕ) → IsChecked net → IsRegular net s → HasControl net s noted → HasToken net s u p → noted_place net noted u ≡ Some p
place_noted net s u p noted checked good control t =
    let held = control_held net s u p t.value checked good t.within t.head in
    let end = is_at-inv (chan_at net (into u p net.chans)).to u p (into-at u p net.chans held.0.within) in
    let there : noted_place net (into u p net.chans) u ≡ Some p =
    ap (λ b. cond b (Some (chan_at net (into u p net.chans)).to.place) None) (both_true held.1 (eq-eqb _ _ end.0)) ∙ ap Some end.1 in
    subst (λ d. noted_place net d u ≡ Some p) (control u p t.value t.within t.head) there

-- in a cycle what takes the control token finds it on the noted channel, which leads to where it is taken
pub keeps_control : (net : Net) (past : Past) (b : Bounds) (c : ℕ) (start : Dated) (e : Engine) → IsChecked net → InCycle net past b c start e → KeepsControl net (state_of e.state) e.control
keeps_control net past b c start e checked going = record {
  places = λ u p a i n. place_noted net (state_of e.state) u p e.control checked (going_regular net past b c start e checked going) going.control (token_by net (state_of e.state) u a p i n);
  control = going.control;
}

-- an act of a kind that takes the control token takes it at a place
taken_at : (k : Kind) (kind a : Act) → TakesControl kind → act_rank a ≡ act_rank kind → (p : ℕ) × (takes_at k a ≡ Some p)
taken_at k (From j) a t r = (act_number a, ap (takes_at k) (act_is 1 a r))
taken_at k (Alloc j) a t r = (act_number a, ap (takes_at k) (act_is 3 a r))
taken_at k End a t r = (groups_in k, ap (takes_at k) (act_is 9 a r))
taken_at k _ a t r = absurd t

-- so none of them is enabled where no token is on the noted channel
pub control_none : (net : Net) (s : State) (noted u : ℕ) (kind a : Act) → HasControl net s noted → first (tokens_at s noted) ≡ None → TakesControl kind → act_rank a ≡ act_rank kind → enabled net s (firing u a) → ⊥
control_none net s noted u kind a control none takes r n =
    let p = taken_at (kind_of net u) kind a takes r in
    let t = token_by net s u a p.0 p.1 n in
    let h : first (tokens_at s noted) ≡ Some t.value = ap (λ d. first (tokens_at s d)) (sym (control u p.0 t.value t.within t.head)) ∙ t.head in
    let z : Some t.value ≡ None = sym h ∙ none in
    cc
