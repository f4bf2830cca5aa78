-- The last edge to each target: a draft's table of tails has its number.
use Rattle.std.proofs.Common.{◌≡◌, ◌≢◌, ℕ, zero, suc, ◌+◌, ◌^◌, ◌<◌, ◌≤◌, List, [], ◌∷◌, ◌++◌, length, get_or, set, length-set, length-append, Bool, true, false, Option, Some, None, refl, sym, ap, ◌∙◌, subst, inl, inr, arith, get_or-set_same, get_or-set_other}
use Rattle.std.specs.Prelude.{cond, ◌==◌, slice_get}
use Rattle.std.proofs.lemmas.Bool.{cases_eq, eq-eqb, ne_eqb, eqb-true}
use Rattle.el_base.specs.declared.ty.Array.{Array}
use Rattle.el_base.specs.declared.ty.Scalar.{Scalar}
use Rattle.ir.specs.declared.graph.Block.{Block}
use Rattle.ir.specs.declared.groups.Access.{Access}
use Rattle.circuit_build.specs.declared.draft.Draft.{Draft}
use Rattle.circuit_build.specs.declared.draft.Edge.{Edge}
use Rattle.circuit_build.specs.Blocks.{numbered, tail_of}
use Rattle.circuit_build.specs.Drafts.{number}
use Rattle.circuit_build.specs.Uses.{zeros}
use Rattle.circuit_build.proofs.Targets.{one_if, occurs}
use Rattle.circuit_build.proofs.LayLists.{led, all_led}

-- the last edge to a target
abbrev pub later : Option Edge → Option Edge → Option Edge
later None o = o
later (Some e) o = Some e

abbrev pub last_to : ℕ → List Edge → Option Edge
last_to t [] = None
last_to t (e ∷ es) = later (last_to t es) (cond (e.to == t) (Some e) None)

later_assoc : (a b c : Option Edge) → later a (later b c) ≡ later (later a b) c
later_assoc None b c = refl
later_assoc (Some e) b c = refl

later_none : (a : Option Edge) → later a None ≡ a
later_none None = refl
later_none (Some e) = refl

pub last_append : (t : ℕ) (es fs : List Edge) → last_to t (es ++ fs) ≡ later (last_to t fs) (last_to t es)
last_append t [] fs = sym (later_none (last_to t fs))
last_append t (e ∷ es) fs =
    ap (λ o. later o (cond (e.to == t) (Some e) None)) (last_append t es fs) ∙ sym (later_assoc (last_to t fs) (last_to t es) (cond (e.to == t) (Some e) None))

-- a target without an edge has no last one
pub last_none : (t : ℕ) (es : List Edge) → occurs t es ≡ 0 → last_to t es ≡ None
last_none t [] h = refl
last_none t (e ∷ es) h = by (e.to == t) refl (λ z. last_none t es z)
  where
    by : (b : Bool) → (e.to == t) ≡ b → (occurs t es ≡ 0 → last_to t es ≡ None) → last_to t (e ∷ es) ≡ None
    by true q i = let a : one_if e.to t ≡ 1 = ap (λ b. cond b 1 0) q in absurd (omega (arith, a, h))
    by false q i =
        let a : one_if e.to t ≡ 0 = ap (λ b. cond b 1 0) q in
        ap (λ o. later o (cond (e.to == t) (Some e) None)) (i (omega (arith, a, h))) ∙ ap (λ b. cond b (Some e) None) q

occurs_some : (t : ℕ) (es : List Edge) (i : ℕ) (e : Edge) → slice_get es i ≡ Some e → e.to ≡ t → 1 ≤ occurs t es
occurs_some t [] i e s z = absurd (cc)
occurs_some t (y ∷ es) zero e s z = let same : y ≡ e = cc in let a : one_if y.to t ≡ 1 = ap (λ b. cond b 1 0) (eq-eqb y.to t (ap (λ (w : Edge). w.to) same ∙ z)) in omega (arith, a)
occurs_some t (y ∷ es) (suc i) e s z = let r = occurs_some t es i e s z in omega (arith, r)

-- the only edge to a target is the last
pub last_only : (t : ℕ) (es : List Edge) (i : ℕ) (e : Edge) → slice_get es i ≡ Some e → e.to ≡ t → occurs t es ≡ 1 → last_to t es ≡ Some e
last_only t [] i e s z h = absurd (cc)
last_only t (x ∷ es) zero e s z h =
    let same : x ≡ e = cc in
    let q : (x.to == t) ≡ true = eq-eqb x.to t (ap (λ (y : Edge). y.to) same ∙ z) in
    let a : one_if x.to t ≡ 1 = ap (λ b. cond b 1 0) q in
    let n = last_none t es (omega (arith, a, h)) in
    ap (λ o. later o (cond (x.to == t) (Some x) None)) n ∙ ap (λ b. cond b (Some x) None) q ∙ ap Some same
last_only t (x ∷ es) (suc i) e s z h =
    let o = occurs_some t es i e s z in
    ap (λ o. later o (cond (x.to == t) (Some x) None)) (last_only t es i e s z (omega (arith, o, h)))

occurs_append : (t : ℕ) (es fs : List Edge) → occurs t (es ++ fs) ≡ occurs t es + occurs t fs
occurs_append t [] fs = omega arith
occurs_append t (e ∷ es) fs = let i = occurs_append t es fs in omega (arith, i)

some_occurs : (t : ℕ) (es : List Edge) (e : Edge) → last_to t es ≡ Some e → 1 ≤ occurs t es
some_occurs t es e s = by (occurs t es) refl
  where
    by : (n : ℕ) → occurs t es ≡ n → 1 ≤ occurs t es
    by zero z = let x : last_to t es ≡ None = last_none t es z in absurd (cc)
    by (suc n) z = omega (arith, z)

-- the last edge stays the last where it is the only one
pub last_stays : (t : ℕ) (es fs : List Edge) (e : Edge) → last_to t es ≡ Some e → occurs t (es ++ fs) ≡ 1 → last_to t (es ++ fs) ≡ Some e
last_stays t es fs e s one =
    let a = some_occurs t es e s in
    let b = occurs_append t es fs in
    last_append t es fs ∙ ap (λ o. later o (last_to t es)) (last_none t fs (omega (arith, a, b, one))) ∙ s

-- a target whose one edge stands has one input
pub one_input : (ins : ℕ) (o : Option Edge) (e : Edge) → cond (ins == 1) o None ≡ Some e → ins ≡ 1
one_input ins o e h = by (ins == 1) refl h
  where
    by : (t : Bool) → (ins == 1) ≡ t → cond t o None ≡ Some e → ins ≡ 1
    by true q x = eqb-true ins 1 q
    by false q x = absurd (cc)

pub tail_one : (n ins t : ℕ) (d : Draft) (e : Edge) → tail_of ins t d ≡ Some e → ins ≡ 1
tail_one n ins t d e h = one_input ins (numbered (get_or d.tails t 0) d.edges) e h

-- ---- tables

pub record TailsAre (n : ℕ) (d : Draft) : Type 0 where
  pub many : length d.tails ≡ n
  pub each : (t : ℕ) → t < n → numbered (get_or d.tails t 0) d.edges ≡ last_to t d.edges

-- the number of an edge stays where more edges come
get_more : (es : List Edge) (x : Edge) (n : ℕ) (e : Edge) → slice_get es n ≡ Some e → slice_get (es ++ x ∷ []) n ≡ Some e
get_more [] x n e s = absurd (cc)
get_more (y ∷ es) x zero e s = s
get_more (y ∷ es) x (suc n) e s = get_more es x n e s

get_last : (es : List Edge) (x : Edge) → slice_get (es ++ x ∷ []) (length es) ≡ Some x
get_last [] x = refl
get_last (y ∷ es) x = get_last es x

-- a number that is in range, or 0
pub record Stands (n : ℕ) (d : Draft) : Type 0 where
  pub tails : TailsAre n d
  pub within : (t : ℕ) → get_or d.tails t 0 ≤ length d.edges

numbered_more : (m : ℕ) (es : List Edge) (x : Edge) → m ≤ length es → numbered m (es ++ x ∷ []) ≡ numbered m es
numbered_more zero es x l = refl
numbered_more (suc m) es x l = more es m (omega arith)
  where
    more : (es : List Edge) (m : ℕ) → m < length es → slice_get (es ++ x ∷ []) m ≡ slice_get es m
    more [] m l = absurd (omega arith)
    more (y ∷ es) zero l = refl
    more (y ∷ es) (suc m) l = more es m (omega arith)

pub led_stands : (n : ℕ) (x : Edge) (d : Draft) → length d.edges + 1 < 2 ^ 32 → Stands n d → Stands n (led x d)
led_stands n x d few h =
    let all = d.edges ++ x ∷ [] in
    let l = length-append d.edges (x ∷ []) in
    let k : number (length all) ≡ suc (length d.edges) = omega (arith, l, few) in
    let many = h.tails.many in
    record {
      tails = record {
        many = length-set d.tails x.to (number (length all)) ∙ many;
        each = λ t lt. elim (cases_eq t x.to) [
          | inl e ↦
              (let a : get_or (set d.tails x.to (number (length all))) t 0 ≡ number (length all) =
              ap (λ u. get_or (set d.tails x.to (number (length all))) u 0) e ∙ get_or-set_same d.tails x.to (number (length all)) 0 (omega (arith, e, lt, many)) in
              let b : numbered (get_or (set d.tails x.to (number (length all))) t 0) all ≡ Some x = ap (λ m. numbered m all) (a ∙ k) ∙ get_last d.edges x in
              let c : last_to t all ≡ Some x = last_append t d.edges (x ∷ []) ∙ ap (λ b. later (cond b (Some x) None) (last_to t d.edges)) (eq-eqb x.to t (sym e)) in
              b ∙ sym c)
          | inr ne ↦
              (let a : get_or (set d.tails x.to (number (length all))) t 0 ≡ get_or d.tails t 0 = get_or-set_other d.tails x.to t (number (length all)) 0 ne in
              let b : numbered (get_or (set d.tails x.to (number (length all))) t 0) all ≡ numbered (get_or d.tails t 0) d.edges = ap (λ m. numbered m all) a ∙ numbered_more (get_or d.tails t 0) d.edges x (h.within t) in
              let c : last_to t all ≡ last_to t d.edges = last_append t d.edges (x ∷ []) ∙ ap (λ b. later (cond b (Some x) None) (last_to t d.edges)) (ne_eqb x.to t (λ z. ne (sym z))) in
              b ∙ h.tails.each t lt ∙ sym c)
        ];
      };
      within = λ t. elim (cases_eq t x.to) [
        | inl e ↦ in_set t (let w = h.within t in omega (arith, w, l)) (omega (arith, k, l)) e
        | inr ne ↦ (let a = get_or-set_other d.tails x.to t (number (length all)) 0 ne in let w = h.within t in omega (arith, a, w, l))
      ];
    }
  where
    set_any : (xs : List ℕ) (i m v : ℕ) → get_or xs i 0 ≤ m → v ≤ m → get_or (set xs i v) i 0 ≤ m
    set_any [] i m v a b = a
    set_any (y ∷ xs) zero m v a b = b
    set_any (y ∷ xs) (suc i) m v a b = set_any xs i m v a b

    in_set : (t : ℕ) → get_or d.tails t 0 ≤ length (d.edges ++ x ∷ []) → number (length (d.edges ++ x ∷ [])) ≤ length (d.edges ++ x ∷ []) → t ≡ x.to → get_or (set d.tails x.to (number (length (d.edges ++ x ∷ [])))) t 0 ≤ length (d.edges ++ x ∷ [])
    in_set t a b e =
        subst (λ u. get_or (set d.tails u (number (length (d.edges ++ x ∷ [])))) t 0 ≤ length (d.edges ++ x ∷ [])) e
        (set_any d.tails t (length (d.edges ++ x ∷ [])) (number (length (d.edges ++ x ∷ []))) a b)

pub all_led_stands : (n : ℕ) (es : List Edge) (d : Draft) → length d.edges + length es < 2 ^ 32 → Stands n d → Stands n (all_led es d)
all_led_stands n [] d few h = h
all_led_stands n (e ∷ es) d few h = let l = length-append d.edges (e ∷ []) in all_led_stands n es (led e d) (omega (arith, l, few)) (led_stands n e d (omega (arith, few)) h)

-- of edges and tails alone
pub stands_as : (n : ℕ) (d e : Draft) → e.edges ≡ d.edges → e.tails ≡ d.tails → Stands n d → Stands n e
stands_as n d e x y h = record {
  tails = record {
    many = ap (λ (ts : List ℕ). length ts) y ∙ h.tails.many;
    each = λ t lt. ap (λ es. numbered (get_or e.tails t 0) es) x ∙ ap (λ ts. numbered (get_or ts t 0) d.edges) y ∙ h.tails.each t lt ∙ sym (ap (last_to t) x);
  };
  within = λ t. let a = ap (λ (ts : List ℕ). get_or ts t 0) y in let b = ap (λ (es : List Edge). length es) x in let w = h.within t in omega (arith, a, b, w);
}

-- a target with one edge
pub tail_is : (n ins t : ℕ) (d : Draft) → t < n → Stands n d → tail_of ins t d ≡ cond (ins == 1) (last_to t d.edges) None
tail_is n ins t d lt h = ap (λ o. cond (ins == 1) o None) (h.tails.each t lt)
