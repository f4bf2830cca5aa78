-- Changes of slots and delays, made one after another and taken back.
use Rattle.std.proofs.Common.{◌≡◌, ℕ, zero, suc, ◌+◌, ◌<◌, ◌==◌, Bool, true, false, cond, Option, Some, None, List, [], ◌∷◌, ◌++◌, get_or, length, map, refl, sym, ap, subst, ◌∙◌, arith}
use Rattle.std.specs.Prelude.{slice_set, take, Result, Ok, Err, OnOk, IfErr}
use Rattle.std.specs.List.{All}
use Rattle.std.specs.Option.{option_or}
use Rattle.std.proofs.lemmas.Bool.{eq-eqb, eqb-true, ne_eqb}
use Rattle.std.proofs.lemmas.List.{take_more}
use Rattle.std.proofs.lemmas.List.Elements.{All-nil, All-cons, All-head, All-tail}
use Rattle.net_types.specs.declared.net.Chan.{Chan}
use Rattle.net_types.specs.declared.net.Net.{Net}
use Rattle.net_types.specs.Nets.{is_at, into, out_of, nowhere}
use Rattle.net_check.specs.declared.refusal.NetRefusal.{NetRefusal}
use Rattle.net_check.specs.declared.retiming.Change.{Change}
use Rattle.net_check.specs.declared.wires.Side.TheVariants.{In, Out}
use Rattle.net_check.specs.declared.wires.Wires.{Wires}
use Rattle.net_check.specs.declared.pins.Pins.{Pins}
use Rattle.net_check.specs.Pins.{pins_of}
use Rattle.net_check.specs.private.Pinned.{ArePins, no_pins}
use Rattle.net_check.specs.private.Steers.{IsTableOf}
use Rattle.net_check.specs.Retimed.{untimed, SamePlain, last_change, changed, changed_from, with_changes}
use Rattle.net_check.specs.Checks.{IsChecked}
use Rattle.net_check.specs.Sizes.{KeepsC3}
use Rattle.net_check.specs.Cycles.{KeepsC4}
use Rattle.net_check.specs.private.Bases.{KeepsBase}
use Rattle.net_check.proofs.CheckLemmas.{checked_of}
use Rattle.net_check.specs.private.Times.{KeepsOthers, time_before, times_before, timed}
use Rattle.net_check.proofs.TimeLemmas.{times_break_two_rules, numbered_same}

-- past the changes
abbrev pub no_change : Change
no_change = record { chan = 0; slots = 0; delay = 0 }

-- ---- the last change of a longer list

last_of : (c : ℕ) (xs : List Change) (y : Change) → last_change c (xs ++ y ∷ []) ≡ option_or (cond (y.chan == c) (Some y) None) (last_change c xs)
last_of c [] y = at (y.chan == c)
  where
    at : (b : Bool) → option_or None (cond b (Some y) None) ≡ option_or (cond b (Some y) None) None
    at true = refl
    at false = refl
last_of c (x ∷ xs) y = ap (λ o. option_or o (cond (x.chan == c) (Some x) None)) (last_of c xs y) ∙ at (y.chan == c)
  where
    at : (b : Bool) → option_or (option_or (cond b (Some y) None) (last_change c xs)) (cond (x.chan == c) (Some x) None) ≡ option_or (cond b (Some y) None) (option_or (last_change c xs) (cond (x.chan == c) (Some x) None))
    at true = refl
    at false = refl

last_hit : (c : ℕ) (xs : List Change) (y : Change) → (y.chan == c) ≡ true → last_change c (xs ++ y ∷ []) ≡ Some y
last_hit c xs y e = last_of c xs y ∙ ap (λ b. option_or (cond b (Some y) None) (last_change c xs)) e

last_miss : (c : ℕ) (xs : List Change) (y : Change) → (y.chan == c) ≡ false → last_change c (xs ++ y ∷ []) ≡ last_change c xs
last_miss c xs y e = last_of c xs y ∙ ap (λ b. option_or (cond b (Some y) None) (last_change c xs)) e

-- ---- one change more

changed_twice : (o : Option Change) (y : Change) (c : Chan) → changed (Some y) (changed o c) ≡ changed (Some y) c
changed_twice None y c = refl
changed_twice (Some x) y c = refl

changed_past : (xs : List Change) (y : Change) (n : ℕ) (cs : List Chan) → y.chan < n → changed_from (xs ++ y ∷ []) n cs ≡ changed_from xs n cs
changed_past xs y n [] l = refl
changed_past xs y n (c ∷ cs) l =
    let e = last_miss n xs y (ne_eqb y.chan n (λ (e : y.chan ≡ n). absurd (omega arith))) in
    let r = changed_past xs y (suc n) cs (omega arith) in
    λ i. changed (e i) c ∷ r i

changed_more : (xs : List Change) (y : Change) (n i : ℕ) (cs : List Chan) → y.chan ≡ n + i → i < length cs
    → slice_set (changed_from xs n cs) i (changed (Some y) (get_or (changed_from xs n cs) i nowhere)) ≡ changed_from (xs ++ y ∷ []) n cs
changed_more xs y n i [] e l = absurd (omega arith)
changed_more xs y n zero (c ∷ cs) e l =
    let h = last_hit n xs y (eq-eqb y.chan n (omega arith)) in
    let r = changed_past xs y (suc n) cs (omega arith) in
    let t = changed_twice (last_change n xs) y c in
    ap (λ x. x ∷ changed_from xs (suc n) cs) (t ∙ ap (λ o. changed o c) (sym h)) ∙ ap (λ r. changed (last_change n (xs ++ y ∷ [])) c ∷ r) (sym r)
changed_more xs y n (suc i) (c ∷ cs) e l =
    let h = last_miss n xs y (ne_eqb y.chan n (λ (w : y.chan ≡ n). absurd (omega arith))) in
    let r = changed_more xs y (suc n) i cs (omega arith) (omega arith) in
    ap (λ r. changed (last_change n xs) c ∷ r) r ∙ ap (λ o. changed o c ∷ changed_from (xs ++ y ∷ []) (suc n) cs) (sym h)

pub length_changed : (xs : List Change) (n : ℕ) (cs : List Chan) → length (changed_from xs n cs) ≡ length cs
length_changed xs n [] = refl
length_changed xs n (c ∷ cs) = ap (λ m. suc m) (length_changed xs (suc n) cs)

none_changed : (n : ℕ) (cs : List Chan) → changed_from [] n cs ≡ cs
none_changed n [] = refl
none_changed n (c ∷ cs) = ap (λ r. c ∷ r) (none_changed (suc n) cs)

pub begin_changes : (cs : List Chan) → cs ≡ changed_from [] 0 cs
begin_changes cs = sym (none_changed 0 cs)

pub change_more : (xs : List Change) (d : Change) (k : ℕ) (cs now after : List Chan) → k < length xs → (get_or xs k d).chan < length cs → now ≡ changed_from (take k xs) 0 cs → after ≡ timed (get_or xs k d) now
    → after ≡ changed_from (take (k + 1) xs) 0 cs
change_more xs d k cs now after l w h e =
    let y = get_or xs k d in
    let t : take (k + 1) xs ≡ take k xs ++ y ∷ [] = take_more xs k d l in
    e ∙ ap (timed y) h ∙ changed_more (take k xs) y 0 y.chan cs (omega arith) w ∙ ap (λ zs. changed_from zs 0 cs) (sym t)

-- ---- taken back

abbrev saved : List Chan → Option Change → Option Change
saved all None = None
saved all (Some y) = Some (time_before all y)

last_saved : (c : ℕ) (all : List Chan) (xs : List Change) → last_change c (times_before all xs) ≡ saved all (last_change c xs)
last_saved c all [] = refl
last_saved c all (x ∷ xs) = ap (λ o. option_or o (cond (x.chan == c) (Some (time_before all x)) None)) (last_saved c all xs) ∙ at (last_change c xs) (x.chan == c)
  where
    at : (o : Option Change) (b : Bool) → option_or (saved all o) (cond b (Some (time_before all x)) None) ≡ saved all (option_or o (cond b (Some x) None))
    at None true = refl
    at None false = refl
    at (Some y) b = refl

-- the last change of the channel c names it
last_names : (c : ℕ) (xs : List Change) (y : Change) → last_change c xs ≡ Some y → y.chan ≡ c
last_names c [] y e = absurd (cc)
last_names c (x ∷ xs) y e = by (last_change c xs) refl (λ f. last_names c xs y f)
  where
    here : (b : Bool) → (x.chan == c) ≡ b → cond b (Some x) None ≡ Some y → y.chan ≡ c
    here true t g = let h : x ≡ y = cc in ap (λ (z : Change). z.chan) (sym h) ∙ eqb-true x.chan c t
    here false t g = absurd (cc)

    by : (o : Option Change) → last_change c xs ≡ o → (last_change c xs ≡ Some y → y.chan ≡ c) → y.chan ≡ c
    by (Some z) f rest = rest (f ∙ (let g : option_or (Some z) (cond (x.chan == c) (Some x) None) ≡ Some y = sym (ap (λ o. option_or o (cond (x.chan == c) (Some x) None)) f) ∙ e in g))
    by None f rest = here (x.chan == c) refl (sym (ap (λ o. option_or o (cond (x.chan == c) (Some x) None)) f) ∙ e)

back_one : (c : ℕ) (all : List Chan) (xs : List Change) (x : Chan) → get_or all c nowhere ≡ x → changed (last_change c (times_before all xs)) (changed (last_change c xs) x) ≡ x
back_one c all xs x e = ap (λ o. changed o (changed (last_change c xs) x)) (last_saved c all xs) ∙ by (last_change c xs) refl
  where
    by : (o : Option Change) → last_change c xs ≡ o → changed (saved all o) (changed o x) ≡ x
    by None f = refl
    by (Some y) f =
        let at : get_or all y.chan nowhere ≡ x = ap (λ k. get_or all k nowhere) (last_names c xs y f) ∙ e in
        ap (λ (z : Chan). record x { slots = z.slots; delay = z.delay }) at

back_from : (all : List Chan) (xs : List Change) (n : ℕ) (cs : List Chan) → ((i : ℕ) → i < length cs → get_or all (n + i) nowhere ≡ get_or cs i nowhere) → changed_from (times_before all xs) n (changed_from xs n cs) ≡ cs
back_from all xs n [] h = refl
back_from all xs n (c ∷ cs) h =
    let m : n + 0 ≡ n = omega arith in
    let e : get_or all n nowhere ≡ c = ap (λ k. get_or all k nowhere) (sym m) ∙ h 0 (omega arith) in
    let rest : (i : ℕ) → i < length cs → get_or all (suc n + i) nowhere ≡ get_or cs i nowhere
    = λ i l. (let k : suc n + i ≡ n + suc i = omega arith in ap (λ k. get_or all k nowhere) k ∙ h (suc i) (omega arith)) in
    let r = back_from all xs (suc n) cs rest in
    let a = back_one n all xs c e in
    λ i. a i ∷ r i

-- what was changed and then gets the slots and delays that it had is what it was
pub taken_back : (cs : List Chan) (xs : List Change) → changed_from (times_before cs xs) 0 (changed_from xs 0 cs) ≡ cs
taken_back cs xs = back_from cs xs 0 cs (λ i l. (let z : 0 + i ≡ i = omega arith in ap (λ k. get_or cs k nowhere) z))

-- ---- rules

plain_changed : (xs : List Change) (n : ℕ) (cs : List Chan) → map untimed (changed_from xs n cs) ≡ map untimed cs
plain_changed xs n [] = refl
plain_changed xs n (c ∷ cs) =
    let a = at (last_change n xs) in
    let r = plain_changed xs (suc n) cs in
    λ i. a i ∷ r i
  where
    at : (o : Option Change) → untimed (changed o c) ≡ untimed c
    at None = refl
    at (Some x) = refl

-- other slots and delays change nothing else
pub same_plain : (xs : List Change) (net : Net) → SamePlain net (with_changes xs net)
same_plain xs net = λ i. record net { chans = plain_changed xs 0 net.chans i }

pub keeps_others : (xs : List Change) (net : Net) → IsChecked net → KeepsOthers (with_changes xs net)
keeps_others xs net h =
    let net2 = with_changes xs net in
    let s = same_plain xs net in
    let r = times_break_two_rules net net2 s in
    record {
      numbered = numbered_same net net2 s (record { units = h.numbered.units; chans = h.numbered.chans });
      c1 = r.c1 h.c1;
      c2 = r.c2 h.c2;
      c5 = r.c5 h.c5;
      c6 = r.c6 h.c6;
      c7 = r.c7 h.c7;
      c8 = r.c8 h.c8;
    }

pub base_of : (net : Net) → KeepsOthers net → KeepsC3 net → KeepsBase net
base_of net k c3 = record { numbered = k.numbered; c8 = k.c8; c7 = k.c7; c1 = k.c1; c2 = k.c2; c3 = c3 }

pub checked_again : (net : Net) → KeepsOthers net → KeepsC3 net → KeepsC4 net → IsChecked net
checked_again net k c3 c4 = checked_of net k.numbered k.c1 k.c2 c3 c4 k.c5 k.c6 k.c7 k.c8

-- ---- tables of places

into_changed : (xs : List Change) (n u p : ℕ) (cs : List Chan) → into u p (changed_from xs n cs) ≡ into u p cs
into_changed xs n u p [] = refl
into_changed xs n u p (c ∷ cs) = at (last_change n xs) (into_changed xs (suc n) u p cs)
  where
    at : (o : Option Change) → into u p (changed_from xs (suc n) cs) ≡ into u p cs → into u p (changed o c ∷ changed_from xs (suc n) cs) ≡ into u p (c ∷ cs)
    at None r = ap (λ m. cond (is_at c.to u p) 0 (suc m)) r
    at (Some x) r = ap (λ m. cond (is_at c.to u p) 0 (suc m)) r

out_changed : (xs : List Change) (n u p : ℕ) (cs : List Chan) → out_of u p (changed_from xs n cs) ≡ out_of u p cs
out_changed xs n u p [] = refl
out_changed xs n u p (c ∷ cs) = at (last_change n xs) (out_changed xs (suc n) u p cs)
  where
    at : (o : Option Change) → out_of u p (changed_from xs (suc n) cs) ≡ out_of u p cs → out_of u p (changed o c ∷ changed_from xs (suc n) cs) ≡ out_of u p (c ∷ cs)
    at None r = ap (λ m. cond (is_at c.from u p) 0 (suc m)) r
    at (Some x) r = ap (λ m. cond (is_at c.from u p) 0 (suc m)) r

in_table : (xs : List Change) (net : Net) (w : Wires) → IsTableOf In net w → IsTableOf In (with_changes xs net) w
in_table xs net w t = record { past = t.past ∙ sym (length_changed xs 0 net.chans); tells = λ u p. t.tells u p ∙ sym (into_changed xs 0 u p net.chans) }

out_table : (xs : List Change) (net : Net) (w : Wires) → IsTableOf Out net w → IsTableOf Out (with_changes xs net) w
out_table xs net w t = record { past = t.past ∙ sym (length_changed xs 0 net.chans); tells = λ u p. t.tells u p ∙ sym (out_changed xs 0 u p net.chans) }

pins_changed : (xs : List Change) (net : Net) (ps : List Pins) → ArePins ps net.chans → ArePins ps (with_changes xs net).chans
pins_changed xs net ps t = record { tells = λ u. ap (λ n. get_or ps u (no_pins n)) (length_changed xs 0 net.chans) ∙ t.tells u ∙ sym (same u) }
  where
    same : (u : ℕ) → pins_of u (changed_from xs 0 net.chans) ≡ pins_of u net.chans
    same u =
        let a = into_changed xs 0 u 0 net.chans in
        let b = into_changed xs 0 u 1 net.chans in
        let c = into_changed xs 0 u 2 net.chans in
        let d = out_changed xs 0 u 0 net.chans in
        λ i. record { first = a i; second = b i; third = c i; out = d i }

-- the tables serve the net after the call, whether it made the changes or not
pub tables_after : (xs : List Change) (net net2 : Net) (ins outs : Wires) (ps : List Pins) (r : Result (Unit {0}) NetRefusal) → IsTableOf In net ins → IsTableOf Out net outs → ArePins ps net.chans → IsChecked net
    → OnOk r (net2 ≡ with_changes xs net) → IfErr r (λ e. net2 ≡ net) → OnOk r (IsChecked net2)
    → (IsTableOf In net2 ins × IsTableOf Out net2 outs) × (ArePins ps net2.chans × IsChecked net2)
tables_after xs net net2 ins outs ps (Ok x) i o t k a b h =
    ((subst (λ n. IsTableOf In n ins) (sym a) (in_table xs net ins i), subst (λ n. IsTableOf Out n outs) (sym a) (out_table xs net outs o)), (subst (λ n. ArePins ps n.chans) (sym a) (pins_changed xs net ps t), h))
tables_after xs net net2 ins outs ps (Err e) i o t k a b h =
    ((subst (λ n. IsTableOf In n ins) (sym b) i, subst (λ n. IsTableOf Out n outs) (sym b) o), (subst (λ n. ArePins ps n.chans) (sym b) t, subst IsChecked (sym b) k))

-- the saved changes name channels of the changed net
pub saved_name : (cs : List Chan) (xs ys : List Change) (zs : List Chan) → ys ≡ times_before cs xs → zs ≡ changed_from xs 0 cs → All (λ (x : Change). x.chan < length cs) xs → All (λ (x : Change). x.chan < length zs) ys
saved_name cs xs ys zs e f h =
    let P : List Change → Type 0 = λ ys. All (λ (x : Change). x.chan < length zs) ys in
    subst P (sym e) (at xs h)
  where
    at : (xs2 : List Change) → All (λ (x : Change). x.chan < length cs) xs2 → All (λ (x : Change). x.chan < length zs) (times_before cs xs2)
    at [] h = All-nil (λ (x : Change). x.chan < length zs)
    at (x ∷ xs2) h =
        let n = ap length f ∙ length_changed xs 0 cs in
        let l = All-head (λ (x : Change). x.chan < length cs) x xs2 h in
        All-cons (λ (x : Change). x.chan < length zs) (time_before cs x) (times_before cs xs2) (omega arith) (at xs2 (All-tail (λ (x : Change). x.chan < length cs) x xs2 h))
