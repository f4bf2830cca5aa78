-- What fits stays fitting under a firing.
use Rattle.std.proofs.Common.{◌≡◌, ◌≢◌, ℕ, zero, suc, ◌<◌, ◌≤◌, ◌^◌, ◌==◌, ◌⊎◌, Bool, true, false, cond, Option, Some, None, List, [], ◌∷◌, length, get_or, set, map, replicate, refl, sym, ap, subst, ◌∙◌, inl, inr, arith, length-set, length-append, get_or-set_same, get_or-set_other, eq-eqb, nat_lt, ltb-true}
use Rattle.std.proofs.lemmas.List.{length-map, get_or_past, set_past}
use Rattle.std.proofs.Math.ListN.{get_or-map}
use Rattle.std.proofs.lemmas.Slice.Zip.{AllZip-long}
use Rattle.std.proofs.lemmas.List.Elements.{All-nil, All-head, All-tail, All-same, All-push}
use Rattle.std.proofs.lemmas.Bool.{cases_lt, cases_eq, and_parts}
use Rattle.std.specs.List.{All, AllZip, list_all}
use Rattle.el_base.specs.declared.ty.Ty.{Ty}
use Rattle.el_base.specs.declared.ty.Array.{Array}
use Rattle.net_types.specs.declared.net.Net.{Net}
use Rattle.net_types.specs.declared.net.Chan.{Chan}
use Rattle.net_types.specs.declared.net.Unit.{Unit as Kind}
use Rattle.net_types.specs.declared.net.Unit.TheVariants.{Entry, Const, Fork, Sink, Lsq, Exit}
use Rattle.net_types.specs.declared.firing.Act.TheVariants.{Send}
use Rattle.net_types.specs.declared.firing.Firing.{Firing}
use Rattle.net_types.specs.Inputs.{AreElementsOf}
use Rattle.net_types.specs.Nets.{into, out_of, chan_at, nowhere, kind_of, uses, owns, firing}
use Rattle.net_types.specs.Tables.{array_width, ins, outs}
use Rattle.net_types.specs.Rules.{HasWidth, width_fits, is_width}
use Rattle.net_check.specs.Checks.{IsChecked}
use Rattle.net_check.specs.Shapes.{HasShape}
use Rattle.word_ops.specs.Laws.{BelowWidth1, BelowWidth2}
use Rattle.lsq_core.specs.Laws.{StaysInOrder, StaysInPorts}
use Rattle.net_core.specs.declared.plan.Put.{Put}
use Rattle.net_core.specs.Fire.{Effect, State, Own, idle, opened, tokens_at, first, head_at, at_array, setting, effect, enabled, after, after_effect, has_room, moved, taken, added, takes_from, puts_on, written, raised, counted, applied, among, sent_to}
use Rattle.net_core.specs.Runs.{opening}
use Rattle.net_core.specs.States.{CountsWithin}
use Rattle.net_core.proofs.RowLemmas.{length-changed, get-changed}
use Rattle.net_core.proofs.ApartLemmas.{is_at-inv, into-at, out_of-at, first_within, length-taken, not_taken, puts-inv}
use Rattle.net_core.proofs.GoesLemmas.{Goes, goes}
use Rattle.net_core.proofs.ForkLemmas.{fork_is, send_inv}
use Rattle.net_core.proofs.ActLemmas.{kind_within, fork_act}
use Rattle.net_core.proofs.EffectLemmas.{QueueGoes, queue_goes_on}
use Rattle.net_core.proofs.RegularLemmas.{opening_tokens}
use Rattle.net_core.proofs.OpenLemmas.{opening_counts}
use Rattle.net_core.proofs.RestoreLemmas.{none_sent, length-false}
use Rattle.net_core.proofs.RestoredLemmas.{OwnForm}
use Rattle.snapshot.specs.Fits.{EntryFits, ValueFits, max_count}
use Rattle.snapshot.specs.Laws.{FitsStay, OpeningFits}
use Rattle.snapshot.proofs.StateFits.{StateFits, OwnFits, state_fits, has_data}
use Rattle.snapshot.proofs.RowFits.{HeadFits, EffectFits, row_fits}

-- ---- arrays

-- elements are patterns of their array's width
elements_at : (ar : List Array) (xss : List (List ℕ)) (a : ℕ) → AllZip AreElementsOf ar xss → All (λ v. v < 2 ^ array_width ar a) (get_or xss a [])
elements_at [] [] a h = All-nil (λ v. v < 2 ^ array_width [] a)
elements_at [] (xs ∷ xss) a h = absurd h
elements_at (y ∷ ar) [] a h = absurd h
elements_at (y ∷ ar) (xs ∷ xss) zero h = h.0.patterns
elements_at (y ∷ ar) (xs ∷ xss) (suc a) h = elements_at ar xss a h.1

elements_set : (ar : List Array) (xss : List (List ℕ)) (a : ℕ) (ys : List ℕ) → AllZip AreElementsOf ar xss → All (λ v. v < 2 ^ array_width ar a) ys → length ys ≡ length (get_or xss a [])
    → AllZip AreElementsOf ar (set xss a ys)
elements_set [] [] a ys h e l = tt
elements_set [] (xs ∷ xss) a ys h e l = absurd h
elements_set (y ∷ ar) [] a ys h e l = absurd h
elements_set (y ∷ ar) (xs ∷ xss) zero ys h e l = (record { len = l ∙ h.0.len; patterns = e }, h.1)
elements_set (y ∷ ar) (xs ∷ xss) (suc a) ys h e l = (h.0, elements_set ar xss a ys h.1 e l)

written_fits : (ar : List Array) (xss : List (List ℕ)) (o : Option ℕ) (ys : List ℕ) → AllZip AreElementsOf ar xss
    → ((a : ℕ) → o ≡ Some a → All (λ v. v < 2 ^ array_width ar a) ys × (length ys ≡ length (get_or xss a []))) → AllZip AreElementsOf ar (written o ys xss)
written_fits ar xss None ys h e = h
written_fits ar xss (Some a) ys h e = let w = e a refl in elements_set ar xss a ys h w.0 w.1

length-raised : (n : ℕ) (xs : List ℕ) (a : ℕ) → length (raised n xs a) ≡ length xs
length-raised n [] a = refl
length-raised n (x ∷ xs) zero = refl
length-raised n (x ∷ xs) (suc a) = ap suc (length-raised n xs a)

length-counted : (o : Option ℕ) (n : ℕ) (xs : List ℕ) → length (counted o n xs) ≡ length xs
length-counted None n xs = refl
length-counted (Some a) n xs = length-raised n xs a

-- ---- tokens

chan_within : (cs : List Chan) (c n : ℕ) → n < (get_or cs c nowhere).slots → c < length cs
chan_within [] c n h = absurd (omega arith)
chan_within (x ∷ cs) zero n h = omega arith
chan_within (x ∷ cs) (suc c) n h = let r = chan_within cs c n h in omega arith

taken_all : (P : ℕ → Type 0) (b : Bool) (xs : List ℕ) → All P xs → All P (taken b xs)
taken_all P false xs h = h
taken_all P true [] h = h
taken_all P true (x ∷ xs) h = All-tail P x xs h

first_all : (P : ℕ → Type 0) (xs : List ℕ) (v : ℕ) → All P xs → first xs ≡ Some v → P v
first_all P [] v h e = cc
first_all P (x ∷ xs) v h e = let z : x ≡ v = cc in subst P z (All-head P x xs h)

added_some : (o : Option ℕ) (xs : List ℕ) → xs ≢ [] → added o xs ≢ []
added_some None xs h = h
added_some (Some v) [] h = absurd (h refl)
added_some (Some v) (x ∷ xs) h = λ e. cc

module _ (net : Net) (k : IsChecked net) where
  -- the width of a channel is that of its places
  in_width : (u p : ℕ) → into u p net.chans < length net.chans → HasWidth (ins net false (kind_of net u)) p (chan_at net (into u p net.chans)).width
  in_width u p l =
      let c = into u p net.chans in
      let i = is_at-inv (chan_at net c).to u p (into-at u p net.chans l) in
      let w = (k.c2.chans c nowhere l).target in
      subst (λ q. HasWidth (ins net false (kind_of net u)) q (chan_at net c).width) i.1 (subst (λ x. HasWidth (ins net false (kind_of net x)) (chan_at net c).to.place (chan_at net c).width) i.0 w)

  out_width : (u p : ℕ) → out_of u p net.chans < length net.chans → HasWidth (outs net false (kind_of net u)) p (chan_at net (out_of u p net.chans)).width
  out_width u p l =
      let c = out_of u p net.chans in
      let i = is_at-inv (chan_at net c).from u p (out_of-at u p net.chans l) in
      let w = (k.c2.chans c nowhere l).source in
      subst (λ q. HasWidth (outs net false (kind_of net u)) q (chan_at net c).width) i.1 (subst (λ x. HasWidth (outs net false (kind_of net x)) (chan_at net c).from.place (chan_at net c).width) i.0 w)

  module _ (s : State) (fits : StateFits net s) where
    heads_fit : (u p v : ℕ) → head_at net s u p ≡ Some v → HeadFits net (kind_of net u) p v
    heads_fit u p v e =
        let m = first_within s.tokens (into u p net.chans) v e in
        let n = fits.long in (
          (chan_at net (into u p net.chans)).width,
          in_width u p (omega arith),
          first_all (λ x. x < 2 ^ (chan_at net (into u p net.chans)).width) (tokens_at s (into u p net.chans)) v (fits.tokens (into u p net.chans)) e,
        )

    module _ (f : Firing) (e : Effect) (g : Goes net s f e) (good : EffectFits net (kind_of net f.unit) (at_array s.arrays (uses (kind_of net f.unit))) e) where
      tokens_are : (c : ℕ) → c < length net.chans → tokens_at (applied net f.unit e s) c ≡ moved net f.unit e c (tokens_at s c)
      tokens_are c l = get-changed (moved net f.unit e) 0 s.tokens c c (omega arith) (let n = fits.long in omega arith)

      tokens_past : (c : ℕ) → length net.chans ≤ c → tokens_at (applied net f.unit e s) c ≡ []
      tokens_past c l = get_or_past (applied net f.unit e s).tokens c [] (let m = length-changed (moved net f.unit e) 0 s.tokens in let n = fits.long in omega arith)

      room_for : (o : Option Put) (w : Put) → o ≡ Some w → has_room net s f.unit o → length (tokens_at s (out_of f.unit w.place net.chans)) < (chan_at net (out_of f.unit w.place net.chans)).slots
      room_for None w q h = cc
      room_for (Some y) w q h = let z : y ≡ w = cc in subst (λ x. length (tokens_at s (out_of f.unit x.place net.chans)) < (chan_at net (out_of f.unit x.place net.chans)).slots) z h

      -- what is put on a channel is a pattern of it, and has room
      put_on : (c v : ℕ) → puts_on net f.unit e.put c ≡ Some v → (v < 2 ^ (chan_at net c).width) × (length (tokens_at s c) < (chan_at net c).slots)
      put_on c v q =
          let i = puts-inv net f.unit c e.put (λ z. (let y : None ≡ Some v = sym z ∙ q in cc)) in
          let w = i.0 in
          let room = room_for e.put i.0 i.1 g.room in
          let value : i.0.value ≡ v = value_of i.0 i.1 i.2 in
          let below = good.put i.0 i.1 (chan_at net (out_of f.unit i.0.place net.chans)).width (out_width f.unit i.0.place (chan_within net.chans (out_of f.unit i.0.place net.chans) _ room)) in
          rw i.2 (subst (λ n. n < 2 ^ (chan_at net (out_of f.unit i.0.place net.chans)).width) value below, room)
        where
          value_of : (w : Put) → e.put ≡ Some w → c ≡ out_of f.unit w.place net.chans → w.value ≡ v
          value_of w a b =
              let z : (c == out_of f.unit w.place net.chans) ≡ true = eq-eqb _ _ b in
              let y : puts_on net f.unit (Some w) c ≡ Some w.value = rw z refl in
              let x : Some w.value ≡ Some v = sym y ∙ ap (λ o. puts_on net f.unit o c) (sym a) ∙ q in cc

      slots_stay : (c : ℕ) → length (tokens_at (applied net f.unit e s) c) ≤ (chan_at net c).slots
      slots_stay c = by (cases_lt c (length net.chans))
        where
          grown : (o : Option ℕ) → puts_on net f.unit e.put c ≡ o → length (added o (taken (takes_from net f.unit e c) (tokens_at s c))) ≤ (chan_at net c).slots
          grown None q = let a = length-taken (takes_from net f.unit e c) (tokens_at s c) in let b = fits.slots c in omega arith
          grown (Some v) q =
              let a = length-taken (takes_from net f.unit e c) (tokens_at s c) in
              let b = (put_on c v q).1 in
              let m = length-append (taken (takes_from net f.unit e c) (tokens_at s c)) (v ∷ []) in
              omega arith

          by : (c < length net.chans) ⊎ (length net.chans ≤ c) → length (tokens_at (applied net f.unit e s) c) ≤ (chan_at net c).slots
          by (inl l) = rw (tokens_are c l) (grown (puts_on net f.unit e.put c) refl)
          by (inr l) = rw (tokens_past c l) (omega arith)

      tokens_stay : (c : ℕ) → All (λ v. v < 2 ^ (chan_at net c).width) (tokens_at (applied net f.unit e s) c)
      tokens_stay c = by (cases_lt c (length net.chans))
        where
          grown : (o : Option ℕ) → puts_on net f.unit e.put c ≡ o → All (λ v. v < 2 ^ (chan_at net c).width) (added o (taken (takes_from net f.unit e c) (tokens_at s c)))
          grown None q = taken_all (λ v. v < 2 ^ (chan_at net c).width) (takes_from net f.unit e c) (tokens_at s c) (fits.tokens c)
          grown (Some v) q =
              All-push (λ v. v < 2 ^ (chan_at net c).width) (taken (takes_from net f.unit e c) (tokens_at s c)) v
              (taken_all (λ v. v < 2 ^ (chan_at net c).width) (takes_from net f.unit e c) (tokens_at s c) (fits.tokens c)) (put_on c v q).0

          by : (c < length net.chans) ⊎ (length net.chans ≤ c) → All (λ v. v < 2 ^ (chan_at net c).width) (tokens_at (applied net f.unit e s) c)
          by (inl l) = All-same (λ v. v < 2 ^ (chan_at net c).width) _ _ (tokens_are c l) (grown (puts_on net f.unit e.put c) refl)
          by (inr l) = All-same (λ v. v < 2 ^ (chan_at net c).width) _ _ (tokens_past c l) (All-nil (λ v. v < 2 ^ (chan_at net c).width))

      -- what a unit keeps
      own_stays : (P : Kind → Own → Type 0) → P (kind_of net f.unit) e.own → ((u : ℕ) → P (kind_of net u) (get_or s.own u idle)) → (u : ℕ) → P (kind_of net u) (get_or (set s.own f.unit e.own) u idle)
      own_stays P here each u = by (cases_eq u f.unit) (cases_lt f.unit (length s.own))
        where
          by : (u ≡ f.unit) ⊎ (u ≡ f.unit → ⊥) → (f.unit < length s.own) ⊎ (length s.own ≤ f.unit) → P (kind_of net u) (get_or (set s.own f.unit e.own) u idle)
          by (inl a) (inl l) = rw a (subst (P (kind_of net f.unit)) (sym (get_or-set_same s.own f.unit e.own idle l)) here)
          by (inl a) (inr l) = subst (λ os. P (kind_of net u) (get_or os u idle)) (sym (set_past s.own f.unit e.own l)) (each u)
          by (inr n) l = subst (P (kind_of net u)) (sym (get_or-set_other s.own f.unit u e.own idle n)) (each u)

      -- the head of a fork stays until its last send
      head_kept : (u : ℕ) → takes_from net f.unit e (into u 0 net.chans) ≡ false → tokens_at s (into u 0 net.chans) ≢ [] → tokens_at (applied net f.unit e s) (into u 0 net.chans) ≢ []
      head_kept u untaken some = by (cases_lt (into u 0 net.chans) (length net.chans))
        where
          by : (into u 0 net.chans < length net.chans) ⊎ (length net.chans ≤ into u 0 net.chans) → tokens_at (applied net f.unit e s) (into u 0 net.chans) ≢ []
          by (inl l) = subst (λ xs. xs ≢ []) (sym (tokens_are (into u 0 net.chans) l)) (rw untaken (added_some (puts_on net f.unit e.put (into u 0 net.chans)) (tokens_at s (into u 0 net.chans)) some))
          by (inr l) = absurd (some (get_or_past s.tokens (into u 0 net.chans) [] (let n = fits.long in omega arith)))

      within_some : (c : ℕ) → tokens_at s c ≢ [] → c < length net.chans
      within_some c some = elim (cases_lt c (length net.chans)) [ inl l ↦ l | inr l ↦ absurd (some (get_or_past s.tokens c [] (let n = fits.long in omega arith))) ]

      module _ (u w outs : ℕ) (is : kind_of net u ≡ Fork w outs) where
        -- another unit fires
        other_fires : (u ≡ f.unit → ⊥) → (j : ℕ) → get_or (get_or (set s.own f.unit e.own) u idle).sent j false ≡ true → tokens_at (applied net f.unit e s) (into u 0 net.chans) ≢ []
        other_fires n j h =
            let q : get_or (get_or s.own u idle).sent j false ≡ true = ap (λ (o : Own). get_or o.sent j false) (sym (get_or-set_other s.own f.unit u e.own idle n)) ∙ h in
            let some = fits.heads u w outs j is q in
            head_kept u (not_taken net u f.unit 0 e n (within_some (into u 0 net.chans) some)) some

        -- the fork itself sends: all bits were set, and are clear then, or it has its head
        sends : (i : ℕ) → u ≡ f.unit → f.act ≡ Send i → (j : ℕ) → get_or (get_or (set s.own f.unit e.own) u idle).sent j false ≡ true → tokens_at (applied net f.unit e s) (into u 0 net.chans) ≢ []
        sends i a act j h =
            let same : kind_of net f.unit ≡ Fork w outs = ap (kind_of net) (sym a) ∙ is in
            let q : effect net s (firing f.unit (Send i)) ≡ Some e = rw act at g.is in
            let v = send_inv outs i (get_or s.own f.unit idle) [] (head_at net s f.unit) e (sym (fork_is net s f.unit w outs same s i) ∙ q) in
            let l : f.unit < length s.own = (let m = kind_within net f.unit (λ z. (let y : Fork w outs ≡ Sink 0 = sym same ∙ z in cc)) in let n = fits.owned in omega arith) in
            let o : get_or (set s.own f.unit e.own) u idle ≡ e.own = ap (λ x. get_or (set s.own f.unit e.own) x idle) a ∙ get_or-set_same s.own f.unit e.own idle l in
            let b : get_or e.own.sent j false ≡ true = ap (λ (x : Own). get_or x.sent j false) (sym o) ∙ h in
            let bits : get_or (sent_to i (get_or s.own f.unit idle).sent) j false ≡ true = ap (λ (x : Effect). get_or x.own.sent j false) v.3 ∙ b in
            let takes : e.takes ≡ cond (list_all (λ b. b) (set (get_or s.own f.unit idle).sent i true)) (0 ∷ []) [] = sym (ap (λ (x : Effect). x.takes) v.3) in
            by (list_all (λ b. b) (set (get_or s.own f.unit idle).sent i true)) refl bits takes v.1 v.2
          where
            cleared : (bits : List Bool) (j : ℕ) → get_or (map (λ (b : Bool). false) bits) j false ≡ false
            cleared [] j = refl
            cleared (x ∷ bits) zero = refl
            cleared (x ∷ bits) (suc j) = cleared bits j

            by : (b : Bool) → list_all (λ b. b) (set (get_or s.own f.unit idle).sent i true) ≡ b
                → get_or (cond b (map (λ (b : Bool). false) (set (get_or s.own f.unit idle).sent i true)) (set (get_or s.own f.unit idle).sent i true)) j false ≡ true
                → e.takes ≡ cond b (0 ∷ []) [] → (v : ℕ) → head_at net s f.unit 0 ≡ Some v → tokens_at (applied net f.unit e s) (into u 0 net.chans) ≢ []
            by true x bits takes v head = let z = cleared (set (get_or s.own f.unit idle).sent i true) j in cc
            by false x bits takes v head =
                let some : tokens_at s (into f.unit 0 net.chans) ≢ [] = λ y. (let z : None ≡ Some v = sym (ap first y) ∙ head in cc) in
                let untaken : takes_from net f.unit e (into f.unit 0 net.chans) ≡ false = ap (λ ps. among (into f.unit 0 net.chans) (map (λ p. into f.unit p net.chans) ps)) takes in
                subst (λ n. tokens_at (applied net f.unit e s) (into n 0 net.chans) ≢ []) (sym a) (head_kept f.unit untaken some)

        heads_at : (j : ℕ) → get_or (get_or (set s.own f.unit e.own) u idle).sent j false ≡ true → tokens_at (applied net f.unit e s) (into u 0 net.chans) ≢ []
        heads_at j h = by (cases_eq u f.unit)
          where
            by : (u ≡ f.unit) ⊎ (u ≡ f.unit → ⊥) → tokens_at (applied net f.unit e s) (into u 0 net.chans) ≢ []
            by (inr n) = other_fires n j h
            by (inl a) = let x = fork_act net s f.unit w outs f.act (ap (kind_of net) (sym a) ∙ is) e g.is in sends x.0 a x.1 j h

      pub applied_fits : CountsWithin max_count (applied net f.unit e s) → StateFits net (applied net f.unit e s)
      applied_fits counts = record {
        scalars = fits.scalars;
        arrays = written_fits net.arrays s.arrays (owns (kind_of net f.unit)) e.array fits.arrays (λ a q. array_of (kind_of net f.unit) a q (good.array a q));
        long = length-changed (moved net f.unit e) 0 s.tokens ∙ fits.long;
        slots = slots_stay;
        tokens = tokens_stay;
        owned = length-set s.own f.unit e.own ∙ fits.owned;
        form = own_stays OwnForm good.form fits.form;
        own = own_stays (OwnFits net) good.own fits.own;
        heads = λ u w outs j is h. heads_at u w outs is j h;
        strays = length-counted (uses (kind_of net f.unit)) e.strays s.strays ∙ fits.strays;
        counts = counts;
      }
        where
          array_of : (kind : Kind) (a : ℕ) → owns kind ≡ Some a → All (λ v. v < 2 ^ array_width net.arrays a) e.array × (length e.array ≡ length (at_array s.arrays (uses kind)))
              → All (λ v. v < 2 ^ array_width net.arrays a) e.array × (length e.array ≡ length (get_or s.arrays a []))
          array_of (Lsq b d ps gs fw) a q h = let z : b ≡ a = cc in (h.0, h.1 ∙ ap (λ n. length (get_or s.arrays n [])) z)
          array_of Entry a q h = cc
          array_of kind a q h = cc

-- ---- the laws

-- a constant is a pattern
const_below : (net : Net) → IsChecked net → (u w n : ℕ) → kind_of net u ≡ Const w n → n < 2 ^ w
const_below net k u w n is =
    let l : u < length net.units = kind_within net u (λ z. (let y : Const w n ≡ Sink 0 = sym is ∙ z in cc)) in
    let h : width_fits (Const w n) ≡ true = subst (λ x. width_fits x ≡ true) is (k.widths u l) in
    ltb-true _ _ (and_parts (is_width w) (nat_lt n (2 ^ w)) h).1

stays : BelowWidth1 → BelowWidth2 → StaysInOrder → StaysInPorts → (net : Net) (s : State) (f : Firing) → IsChecked net → StateFits net s → enabled net s f → CountsWithin max_count (after net s f) → StateFits net (after net s f)
stays one two order ports net s f k fits h counts =
    let w = goes net s f h in
    let a : after net s f ≡ applied net f.unit w.0 s = ap (after_effect net s f.unit) w.1.is in
    let c : CountsWithin max_count (applied net f.unit w.0 s) = subst (CountsWithin max_count) a counts in
    subst (StateFits net) (sym a) (applied_fits net k s fits f w.0 w.1 (good w.0 w.1 c) c)
  where
    good : (e : Effect) → Goes net s f e → CountsWithin max_count (applied net f.unit e s) → EffectFits net (kind_of net f.unit) (at_array s.arrays (uses (kind_of net f.unit))) e
    good e g c =
        row_fits net (setting net s) fits.scalars refl one two order ports (kind_of net f.unit) f.act (get_or s.own f.unit idle) (at_array s.arrays (uses (kind_of net f.unit))) (head_at net s f.unit) e
        (k.shapes f.unit) (const_below net k f.unit) (λ a q. subst (λ u. All (λ v. v < 2 ^ array_width net.arrays a) (at_array s.arrays u)) (sym q) (elements_at net.arrays s.arrays a fits.arrays))
        (fits.form f.unit) (fits.own f.unit) (heads_fit net k s fits f.unit) g.is (next (cases_lt f.unit (length s.own)))
      where
        next : (f.unit < length s.own) ⊎ (length s.own ≤ f.unit) → e.own.queue.next ≤ 2 ^ 62
        next (inl l) =
            let n : e.own.queue.next ≤ max_count = subst (λ (x : Own). x.queue.next ≤ max_count) (get_or-set_same s.own f.unit e.own idle l) (c.serials f.unit) in
            omega arith
        next (inr l) = by (queue_goes_on (kind_of net f.unit) f.act (get_or s.own f.unit idle) (at_array s.arrays (uses (kind_of net f.unit))) (setting net s) (head_at net s f.unit) e g.is)
          where
            by : QueueGoes (kind_of net f.unit) f.act (get_or s.own f.unit idle) (at_array s.arrays (uses (kind_of net f.unit))) e → e.own.queue.next ≤ 2 ^ 62
            by (QueueGoes.stays q) = let n = fits.counts.serials f.unit in let m = ap (λ x. x.next) q in omega arith
            by (QueueGoes.steps a d ps gs fw v is c q) =
                let z : Lsq a d ps gs fw ≡ Sink 0 = sym is ∙ get_or_past net.units f.unit (Sink 0) (let n = fits.owned in omega arith) in cc

pub fits_stay : BelowWidth1 → BelowWidth2 → StaysInOrder → StaysInPorts → FitsStay
fits_stay one two order ports net s f k known h counts =
    has_data net (after net s f) k (stays one two order ports net s f k (subst (StateFits net) known.is (state_fits net known.parts known.fits)) h counts)

-- ---- the opening state

opened_form : (k : Kind) → OwnForm k (opened k)
opened_form (Fork w outs) = (refl, length-false outs)
opened_form (Lsq a d ps gs f) = (refl, refl)
opened_form k = refl

opened_fits : (net : Net) (k : Kind) → HasShape k → OwnFits net k (opened k)
opened_fits net (Fork w zero) h = let l = h.some in absurd (omega arith)
opened_fits net (Fork w (suc n)) h = refl
opened_fits net (Lsq a d ps gs f) h = (
  record { room = omega arith; order = λ i l. absurd (omega arith); named = λ i l. absurd (omega arith); numbered = omega arith; next = omega arith },
  All-nil (EntryFits (array_width net.arrays a) ps),
)
opened_fits net Exit h = by net.result
  where
    by : (r : Option Ty) → ValueFits r false None
    by None = refl
    by (Some t) = refl
opened_fits net k h = tt

pub opening_fits : OpeningFits
opening_fits net inputs k fit = has_data net (opening net inputs) k (record {
  scalars = fit.scalars;
  arrays = fit.arrays;
  long = length-map net.chans (λ (c : Chan). []);
  slots = λ c. (let e = ap length (opening_tokens net inputs c) in omega arith);
  tokens = λ c. All-same (λ v. v < 2 ^ (chan_at net c).width) _ _ (opening_tokens net inputs c) (All-nil (λ v. v < 2 ^ (chan_at net c).width));
  owned = length-map net.units opened;
  form = λ u. subst (OwnForm (kind_of net u)) (own_is u) (opened_form (kind_of net u));
  own = λ u. subst (OwnFits net (kind_of net u)) (own_is u) (opened_fits net (kind_of net u) (k.shapes u));
  heads = λ u w outs j is h x. (
      let e : get_or (get_or (map opened net.units) u idle).sent j false ≡ get_or (replicate outs false) j false = ap (λ (o : Own). get_or o.sent j false) (sym (own_is u) ∙ ap opened is) in
      let z = none_sent (replicate outs false) outs refl j in
      let y : true ≡ false = sym h ∙ e ∙ z in cc);
  strays = length-map inputs.arrays (λ (xs : List ℕ). 0) ∙ AllZip-long AreElementsOf net.arrays inputs.arrays fit.arrays;
  counts = record { serials = λ u. (let c = (opening_counts net inputs).serials u in omega arith); strays = λ a. (let c = (opening_counts net inputs).strays a in omega arith) };
})
  where
    own_is : (u : ℕ) → opened (kind_of net u) ≡ get_or (map opened net.units) u idle
    own_is u = sym (get_or-map opened net.units u (Sink 0))
