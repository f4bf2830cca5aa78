-- Each expression with calls expands to the blocks of its calls and what is left of it.
use Rattle.std.proofs.Common.{◌≡◌, ℕ, ℤ, zero, suc, ◌+◌, ◌<◌, ◌≤◌, List, [], ◌∷◌, ◌++◌, length, map, Option, Some, refl, sym, ◌∙◌, ap, subst, arith, append-nil, append_assoc}
use Rattle.std.specs.Prelude.{Bool, true, false, slice_get, pos}
use Rattle.std.proofs.lemmas.Bool.{false≢true}
use Rattle.std.proofs.lemmas.List.{length-append}
use mathlib.Core.Former.{Count}
use Rattle.el_base.specs.declared.span.Span.{Span}
use Rattle.el_base.specs.declared.ty.Ty.{Ty}
use Rattle.c_ast.specs.declared.tree.Binary.{Binary}
use Rattle.c_ast.specs.declared.tree.Binary.TheVariants as op
use Rattle.c_ast.specs.declared.typed.ArrayOf.{ArrayOf}
use Rattle.c_ast.specs.declared.typed.TypedExprKind.TheVariants as expr
use Rattle.c_ast.specs.declared.typed.TypedStmt.{TypedStmt}
use Rattle.c_ast.specs.declared.program.ProgExprKind.{ProgExprKind, Row_of-ProgExpr, end_of-ProgExpr, more_of-ProgExpr}
use Rattle.c_ast.specs.declared.program.ProgExprKind as tree
use Rattle.c_ast.specs.Casts.{of_type}
use Rattle.c_meaning.specs.declared.profile.Profile.{Profile}
use Rattle.c_meaning.specs.Types.{conv}
use Rattle.c_meaning.specs.Operators.{is_zero, unary_value, binary_value}
use Rattle.c_meaning.specs.Stores.{Store, Objects, read_var, place}
use Rattle.c_meaning.specs.Statements.{in_order}
use Rattle.c_meaning.specs.Expressions.{Val, undefined_value, value, Vals, undefined_values, values, Meaning, after_turns, on_one, on_two, later, one_of, chosen, as_truth, always, with_first, all_values, element, element_at, binary_meaning, meaning, kind_meaning}
use Rattle.c_meaning.specs.Lawful.{both_or_either}
use Rattle.c_meaning.proofs.TreeEquations.{expr_element, expr_unary, expr_cast, expr_binary, expr_choose}
use Rattle.c_meaning.proofs.ValueParts.{element_of_arrays}
use Rattle.c_meaning.proofs.StoreParts.{Below}
use Rattle.c_calls.specs.Meanings.{Called, called, called_by, prog_kind_meaning, prog_row_meanings}
use Rattle.c_calls.specs.Inlined.{Writing, written_by, inline_expr, inline_row}
use Rattle.c_calls.specs.Lawful.{Signature, LawfulCallKind, LawfulCallRow, ReadsOf, RowReadsOf, row_types, may_right, may_where, IsCall}
use Rattle.c_calls.proofs.Stores.{below_less, Held, Agree, Lists, agree_below}
use Rattle.c_calls.proofs.Imitates.{Rel}
use Rattle.c_calls.proofs.Expands.{Means, Gives, Two, both_give, Expands, Near, whole_expands, pair_expands, map_expands, acts}
use Rattle.c_calls.proofs.Values.{val_means, val_gives, vals_means, vals_gives, one_makes, two_make, choice_makes, row_makes, element_makes}
use Rattle.c_calls.proofs.Blocks.{Seg, Writes, EachDepends, each_less, call_expands}

-- ---- operators

abbrev Strict : Binary → Type 0
Strict o = (p : Profile) (ty : Ty) (at : Span) (a b : Meaning) (s : Store) → binary_meaning p o ty at a b s ≡ on_two at (binary_value p o ty) (a s) (b s)

data Operator : Binary → Type 0 where
  strict : (o : Binary) → both_or_either o ≡ false → Strict o → Operator o
  both : Operator op.Both
  either : Operator op.Either

operator : (o : Binary) → Operator o
operator op.Both = both
operator op.Either = either
operator o = strict o refl (λ p ty at a b s. refl)

one_of_same : (z : Bool) (a b a2 b2 : Meaning) (s r : Store) → a2 r ≡ a s → b2 r ≡ b s → one_of z a2 b2 r ≡ one_of z a b s
one_of_same true a b a2 b2 s r x y = x
one_of_same false a b a2 b2 s r x y = y

chosen_at : (v : Val) (a b a2 b2 : Meaning) (s r : Store) → a2 r ≡ a s → b2 r ≡ b s → chosen v a2 b2 r ≡ chosen v a b s
chosen_at (undefined_value p) a b a2 b2 s r x y = refl
chosen_at (value w t) a b a2 b2 s r x y = ap (later (t + 1)) (one_of_same (is_zero w) b a b2 a2 s r y x)

chosen_same : (v v2 : Val) (a b a2 b2 : Meaning) (s r : Store) → v2 ≡ v → a2 r ≡ a s → b2 r ≡ b s → chosen v2 a2 b2 r ≡ chosen v a b s
chosen_same v v2 a b a2 b2 s r e x y = ap (λ w. chosen w a2 b2 r) e ∙ chosen_at v a b a2 b2 s r x y

binary_same : (p : Profile) (o : Binary) (ty : Ty) (at : Span) (a b a2 b2 : Meaning) (s r : Store) → Operator o → a2 r ≡ a s → b2 r ≡ b s → binary_meaning p o ty at a2 b2 r ≡ binary_meaning p o ty at a b s
binary_same p o ty at a b a2 b2 s r (strict o1 e k) x y = k p ty at a2 b2 r ∙ ap (λ v. on_two at (binary_value p o ty) v (b2 r)) x ∙ ap (λ v. on_two at (binary_value p o ty) (a s) v) y ∙ sym (k p ty at a b s)
binary_same p o ty at a b a2 b2 s r both x y = chosen_same (a s) (a2 r) (λ s. as_truth (b s)) (always (pos 0)) (λ s. as_truth (b2 s)) (always (pos 0)) s r x (ap as_truth y) refl
binary_same p o ty at a b a2 b2 s r either x y = chosen_same (a s) (a2 r) (always (pos 1)) (λ s. as_truth (b s)) (always (pos 1)) (λ s. as_truth (b2 s)) s r x refl (ap as_truth y)

-- ---- a helper, or the kernel, in the tree without calls

-- its own arrays are those of the tree, or it has none
abbrev pub HasArrays : Bool → List ArrayOf → List ArrayOf → Type 0
HasArrays true ka Ka = ka ≡ Ka
HasArrays false ka Ka = ka ≡ []

abbrev pub objects_of : Profile → List Ty → List ArrayOf → Objects
objects_of p vars arrays = record { profile = p; vars = vars; arrays = arrays }

pub record World : Type 0 where
  pub profile : Profile
  -- its variables and arrays, and those of the tree
  pub kv : List Ty
  pub ka : List ArrayOf
  pub Kv : List Ty
  pub Ka : List ArrayOf
  -- its variables are numbered from b on, in stores of n variables
  pub b : ℕ
  pub n : ℕ
  pub own : Bool
  pub low : Store
  pub signatures : List Signature
  pub writings : List Writing
  pub calls : ℕ → List Called
  pub arrays : HasArrays own ka Ka
  pub count : length low.vars ≡ n
  pub room : b + length kv ≤ length Kv
  pub stores : length Kv ≤ n
  pub types : (v : ℕ) → v < length kv → slice_get Kv (b + v) ≡ slice_get kv v
  pub written : (h : ℕ) (g : Signature) → slice_get signatures h ≡ Some g → Writes n (objects_of profile Kv Ka) g (written_by (slice_get writings h)) (λ i. called_by (slice_get (calls i) h))

reword : {X : Type 0} (K : Objects) (R : Rel) (f g g2 : ℕ) (m m2 : Means X) (b1 b2 : List TypedStmt) (l1 l2 : Gives X) → g ≤ g2 → b1 ≡ b2 → ((n : ℕ) (s : Store) (x : X) (u : ℕ) → m2 n s x u → m n s x u) → ((n : ℕ) (s : Store) (x : X) (u : ℕ) → m n s x u → m2 n s x u)
    → ((r : Store) (x : X) → l1 r x → l2 r x) → ((r : Store) (x : X) → l2 r x → l1 r x) → Expands K R f g m b1 l1 → Expands K R f g2 m2 b2 l2
reword K R f g g2 m m2 b1 b2 l1 l2 le e down up to from x = subst (λ b. Expands K R f g2 m2 b l2) e (record {
  more = let a = x.more in omega arith;
  quiet = x.quiet;
  depends = λ r q z w h. to q z (x.depends r q z (below_less g g2 r q le w) (from r z h));
  forth = λ n s t z u r h lt. let d = x.forth n s t z u r (down n s z u h) lt in record { turns = d.turns; last = d.last; takes = d.takes; kept = d.kept; has = to d.last z d.has };
  back = λ s t l r d. let q = x.back s t l r d in record { normal = q.normal; kept = q.kept; less = q.less; gave = λ z h. let v = q.gave z (from (in_order (acts K b1) t l).store z h) in record { least = v.least; uses = v.uses; is = λ i. up (v.least + i) s z v.uses (v.is i) } };
})

record CallFacts (hs : List Signature) (h : ℕ) (ts : List Ty) : Type 0 where
  signature : Signature
  is : slice_get hs h ≡ Some signature
  params : ts ≡ signature.params

call_facts : (hs : List Signature) (may : Bool) (h : ℕ) (ts : List Ty) (t : Ty) → IsCall hs may h ts t → CallFacts hs h ts
call_facts hs may h ts t (stands, (g, e, p, r)) = record { signature = g; is = e; params = p }

pub seg_first : (vars : List Ty) (f : ℕ) (a c : List Ty) → Seg vars f (a ++ c) → Seg vars f a
seg_first vars f a c s = record { pre = s.pre; post = c ++ s.post; is = s.is ∙ ap (λ z. s.pre ++ z) (append_assoc a c s.post); at = s.at }

pub seg_rest : (vars : List Ty) (f : ℕ) (a c : List Ty) → Seg vars f (a ++ c) → Seg vars (f + length a) c
seg_rest vars f a c s = record { pre = s.pre ++ a; post = s.post; is = s.is ∙ ap (λ z. s.pre ++ z) (append_assoc a c s.post) ∙ sym (append_assoc s.pre a (c ++ s.post)); at = let e = length-append s.pre a in let h = s.at in omega arith }

pub is_element_none : {A : Type 0} (a : ℕ) (x : ArrayOf) → slice_get {X = ArrayOf} [] a ≡ Some x → A
is_element_none zero x e = absurd (cc)
is_element_none (suc a) x e = absurd (cc)

module _ (W : World) (vs us ts : List ℕ) (lists : Lists (length W.kv) W.b vs us ts) where
  abbrev k : Objects
  k = objects_of W.profile W.kv W.ka

  abbrev K : Objects
  K = objects_of W.profile W.Kv W.Ka

  abbrev R : Rel
  R s t = Agree k K W.b W.own W.low vs us ts s t

  abbrev base : ℕ
  base = W.b + length W.kv

  pub near : (f : ℕ) → base ≤ f → Near R f
  near f le s t r a z = agree_below k K W.b W.own W.low f vs us ts s t r lists le a z

  -- ---- where no call may stand

  pub record Plain (c : ℕ → Meaning) (before : List TypedStmt) (left : Meaning) : Type 0 where
    pub none : before ≡ []
    pub same : (n : ℕ) (s r : Store) → R s r → left r ≡ c n s
    pub depends : (r q : Store) → Below base r q → left r ≡ left q

  record PlainRow (cs : ℕ → List Meaning) (before : List TypedStmt) (left : List Meaning) : Type 0 where
    none : before ≡ []
    same : (n : ℕ) (s r : Store) → R s r → all_values left r ≡ all_values (cs n) s
    depends : (r q : Store) → Below base r q → all_values left r ≡ all_values left q

  no_blocks : (a b : List TypedStmt) → a ≡ [] → b ≡ [] → a ++ b ≡ []
  no_blocks a b e h = ap (λ x. x ++ b) e ∙ h

  own_arrays : (a : ℕ) (x : ArrayOf) → slice_get W.ka a ≡ Some x → (s r : Store) → R s r → (W.ka ≡ W.Ka) × (s.arrays ≡ r.arrays)
  own_arrays a x e s r z = by_own W.own W.arrays z.arrays
    where
      by_own : (own : Bool) → HasArrays own W.ka W.Ka → Held own W.low.arrays s.arrays r.arrays → (W.ka ≡ W.Ka) × (s.arrays ≡ r.arrays)
      by_own true h g = (h, g)
      by_own false h g = is_element_none a x (subst (λ ka. slice_get ka a ≡ Some x) h e)

  mutual
    pub plain : (f : ℕ) (e : ProgExprKind) (ty : Ty) (at : Span) → LawfulCallKind k W.signatures false e ty → ReadsOf vs e
        → Plain (λ n. prog_kind_meaning k (W.calls n) e ty at) (inline_expr W.writings W.b f e at).before (kind_meaning K (inline_expr W.writings W.b f e at).kind ty at)
    plain f (tree.Number n) ty at l c = record { none = refl; same = λ n s r a. refl; depends = λ r q z. refl }
    plain f (tree.Var v) ty at l c = record {
      none = refl;
      same = λ n s r a. ap (after_turns at 0) (sym (a.same v c));
      depends = λ r q z. ap (after_turns at 0) (z.vars (W.b + v) (let h = lists.small v c in omega arith));
    }
    plain f (tree.Element' a n row) ty at l c =
        let o = inline_row W.writings W.b f row in
        let p = plain_row f row l.1 c in
        let e = expr_element a o.exprs K ty at in
        record {
          none = p.none;
          same = λ n s r z. let g = own_arrays a l.0.0 l.0.1 s r z in ap (λ c. c r) e ∙ ap (element K at r a) (p.same n s r z) ∙ element_same at a s r (all_values (prog_row_meanings k (W.calls n) row) s) g.0 g.1;
          depends = λ r q z. ap (λ c. c r) e ∙ ap (element K at r a) (p.depends r q z) ∙ element_moved at a r q (all_values (map (meaning K) o.exprs) q) z.arrays ∙ ap (λ c. c q) (sym e);
        }
      where
        element_moved : (at : Span) (a : ℕ) (r q : Store) (vs : Vals) → r.arrays ≡ q.arrays → element K at r a vs ≡ element K at q a vs
        element_moved at a r q vs e = ap (λ arrays. element K at (record { vars = r.vars; arrays = arrays }) a vs) e ∙ by_vals vs
          where
            by_vals : (vs : Vals) → element K at (record { vars = r.vars; arrays = q.arrays }) a vs ≡ element K at q a vs
            by_vals (undefined_values p) = refl
            by_vals (values is t) = ap (after_turns at t) (element_of_arrays a (place W.Ka a is) (record { vars = r.vars; arrays = q.arrays }) q refl)

        element_same : (at : Span) (a : ℕ) (s r : Store) (vs : Vals) → W.ka ≡ W.Ka → s.arrays ≡ r.arrays → element K at r a vs ≡ element k at s a vs
        element_same at a s r vs e h = element_moved at a r s vs (sym h) ∙ ap (λ arrays. element (objects_of W.profile W.Kv arrays) at s a vs) (sym e) ∙ by_vals vs
          where
            by_vals : (vs : Vals) → element (objects_of W.profile W.Kv W.ka) at s a vs ≡ element k at s a vs
            by_vals (undefined_values p) = refl
            by_vals (values is t) = refl
    plain f (tree.Unary' o x (more_of-ProgExpr e t at0 end_of-ProgExpr)) ty at l c =
        let p = plain f e t at0 l.2 c in
        let i = inline_expr W.writings W.b f e at0 in
        let h = expr_unary o (of_type i.kind t at0) K ty at in
        record {
          none = p.none;
          same = λ n s r z. ap (λ c. c r) h ∙ ap (on_one at (unary_value W.profile o ty)) (p.same n s r z);
          depends = λ r q z. ap (λ c. c r) h ∙ ap (on_one at (unary_value W.profile o ty)) (p.depends r q z) ∙ ap (λ c. c q) (sym h);
        }
    plain f (tree.Cast' implied x (more_of-ProgExpr e t at0 end_of-ProgExpr)) ty at l c =
        let p = plain f e t at0 l.1 c in
        let i = inline_expr W.writings W.b f e at0 in
        let h = expr_cast implied (of_type i.kind t at0) K ty at in
        record {
          none = p.none;
          same = λ n s r z. ap (λ c. c r) h ∙ ap (on_one at (λ x. Some (conv ty x))) (p.same n s r z);
          depends = λ r q z. ap (λ c. c r) h ∙ ap (on_one at (λ x. Some (conv ty x))) (p.depends r q z) ∙ ap (λ c. c q) (sym h);
        }
    plain f (tree.Binary' o x (more_of-ProgExpr e t at0 end_of-ProgExpr) x2 (more_of-ProgExpr e2 t2 at2 end_of-ProgExpr)) ty at l c =
        let i = inline_expr W.writings W.b f e at0 in
        let i2 = inline_expr W.writings W.b (f + length i.types) e2 at2 in
        let p = plain f e t at0 l.1 c.0 in
        let p2 = plain (f + length i.types) e2 t2 at2 (subst (λ may. LawfulCallKind k W.signatures may e2 t2) (never o) l.2) c.1 in
        let h = expr_binary o (of_type i.kind t at0) (of_type i2.kind t2 at2) K ty at in
        let a2 = kind_meaning K i.kind t at0 in
        let b2 = kind_meaning K i2.kind t2 at2 in
        record {
          none = no_blocks i.before i2.before p.none p2.none;
          same = λ n s r z. ap (λ c. c r) h ∙ binary_same W.profile o ty at (prog_kind_meaning k (W.calls n) e t at0) (prog_kind_meaning k (W.calls n) e2 t2 at2) a2 b2 s r (operator o) (p.same n s r z) (p2.same n s r z);
          depends = λ r q z. ap (λ c. c r) h ∙ binary_same W.profile o ty at a2 b2 a2 b2 q r (operator o) (p.depends r q z) (p2.depends r q z) ∙ ap (λ c. c q) (sym h);
        }
      where
        never : (o : Binary) → may_right false o ≡ false
        never o = never_at (both_or_either o)
          where
            never_at : (z : Bool) → may_where z false ≡ false
            never_at true = refl
            never_at false = refl
    plain f (tree.Choose' x (more_of-ProgExpr e t at0 end_of-ProgExpr) x2 (more_of-ProgExpr e2 t2 at2 end_of-ProgExpr) x3 (more_of-ProgExpr e3 t3 at3 end_of-ProgExpr)) ty at l c =
        let i = inline_expr W.writings W.b f e at0 in
        let i2 = inline_expr W.writings W.b (f + length i.types) e2 at2 in
        let i3 = inline_expr W.writings W.b (f + length i.types + length i2.types) e3 at3 in
        let p = plain f e t at0 l.1 c.0 in
        let p2 = plain (f + length i.types) e2 t2 at2 l.2 c.1 in
        let p3 = plain (f + length i.types + length i2.types) e3 t3 at3 l.3 c.2 in
        let h = expr_choose (of_type i.kind t at0) (of_type i2.kind t2 at2) (of_type i3.kind t3 at3) K ty at in
        let c2 = kind_meaning K i.kind t at0 in
        let a2 = kind_meaning K i2.kind t2 at2 in
        let b2 = kind_meaning K i3.kind t3 at3 in
        record {
          none = no_blocks i.before (i2.before ++ i3.before) p.none (no_blocks i2.before i3.before p2.none p3.none);
          same = λ n s r z. ap (λ c. c r) h ∙ chosen_same (prog_kind_meaning k (W.calls n) e t at0 s) (c2 r) (prog_kind_meaning k (W.calls n) e2 t2 at2) (prog_kind_meaning k (W.calls n) e3 t3 at3) a2 b2 s r (p.same n s r z) (p2.same n s r z) (p3.same n s r z);
          depends = λ r q z. ap (λ c. c r) h ∙ chosen_same (c2 q) (c2 r) a2 b2 a2 b2 q r (p.depends r q z) (p2.depends r q z) (p3.depends r q z) ∙ ap (λ c. c q) (sym h);
        }
    plain f (tree.Call' h n row) ty at l c = absurd (false≢true l.0.0)

    plain_row : (f : ℕ) {n : Count} (row : Row_of-ProgExpr n) → LawfulCallRow k W.signatures false row → RowReadsOf vs row
        → PlainRow (λ n. prog_row_meanings k (W.calls n) row) (inline_row W.writings W.b f row).before (map (meaning K) (inline_row W.writings W.b f row).exprs)
    plain_row f end_of-ProgExpr l c = record { none = refl; same = λ n s r a. refl; depends = λ r q z. refl }
    plain_row f (more_of-ProgExpr e t at row) l c =
        let i = inline_expr W.writings W.b f e at in
        let o = inline_row W.writings W.b (f + length i.types) row in
        let p = plain f e t at l.0 c.0 in
        let p2 = plain_row (f + length i.types) row l.1 c.1 in
        record {
          none = no_blocks i.before o.before p.none p2.none;
          same = λ n s r z. ap (λ v. with_first v (all_values (map (meaning K) o.exprs) r)) (p.same n s r z) ∙ ap (with_first (prog_kind_meaning k (W.calls n) e t at s)) (p2.same n s r z);
          depends = λ r q z. ap (λ v. with_first v (all_values (map (meaning K) o.exprs) r)) (p.depends r q z) ∙ ap (with_first (kind_meaning K i.kind t at q)) (p2.depends r q z);
        }

  pub no_expands : (f : ℕ) → base ≤ f → Expands K R f (f + 0) (vals_means (λ n. [])) [] (vals_gives [])
  no_expands f le = whole_expands K R f (f + 0) (vals_means (λ n. [])) (vals_gives []) (omega arith) (λ r q x z h. h) (λ n s t x u r h. (u, h)) (λ s t x r h. record { least = 0; uses = h.0; is = λ i. h.1 })

  pub cons_expands : (f g h : ℕ) (a : ℕ → Meaning) (xs : ℕ → List Meaning) (b1 b2 : List TypedStmt) (a2 : Meaning) (xs2 : List Meaning) → base ≤ f → Expands K R f g (val_means a) b1 (val_gives a2) → Expands K R g h (vals_means xs) b2 (vals_gives xs2)
      → Expands K R f h (vals_means (λ n. a n ∷ xs n)) (b1 ++ b2) (vals_gives (a2 ∷ xs2))
  cons_expands f g h a xs b1 b2 a2 xs2 le x y =
      map_expands K R f h (Two (val_means a) (vals_means xs)) (both_give (val_gives a2) (vals_gives xs2)) (vals_means (λ n. a n ∷ xs n)) (vals_gives (a2 ∷ xs2)) (λ n s x y d. (y ≡ x.0 ∷ x.1) × (d ≡ 0)) (λ r x y. y ≡ x.0 ∷ x.1) (b1 ++ b2) (near f le)
      (row_makes R h a xs a2 xs2) (pair_expands K R f g h (val_means a) (vals_means xs) b1 b2 (val_gives a2) (vals_gives xs2) (near f le) x y)

  pub owns : (a : ℕ) (x : ArrayOf) → slice_get W.ka a ≡ Some x → (W.own ≡ true) × (W.ka ≡ W.Ka)
  owns a x e = by_own W.own refl W.arrays
    where
      by_own : (own : Bool) → W.own ≡ own → HasArrays own W.ka W.Ka → (W.own ≡ true) × (W.ka ≡ W.Ka)
      by_own true i h = (i, h)
      by_own false i h = is_element_none a x (subst (λ ka. slice_get ka a ≡ Some x) h e)

  own_is : (a : ℕ) (x : ArrayOf) → slice_get W.ka a ≡ Some x → (W.ka ≡ W.Ka) × ((s r : Store) → R s r → s.arrays ≡ r.arrays)
  own_is a x e = by_own W.own W.arrays (λ s r z. z.arrays)
    where
      by_own : (own : Bool) → HasArrays own W.ka W.Ka → ((s r : Store) → R s r → Held own W.low.arrays s.arrays r.arrays) → (W.ka ≡ W.Ka) × ((s r : Store) → R s r → s.arrays ≡ r.arrays)
      by_own true h g = (h, g)
      by_own false h g = is_element_none a x (subst (λ ka. slice_get ka a ≡ Some x) h e)

  choice_expands : (f g h : ℕ) (at : Span) (c a b : ℕ → Meaning) (b1 b2 : List TypedStmt) (c2 a2 b3 : Meaning) → base ≤ f → g ≤ h → b1 ≡ b2 → ((n : ℕ) (s r : Store) → R s r → a2 r ≡ a n s) → ((n : ℕ) (s r : Store) → R s r → b3 r ≡ b n s)
      → ((r q : Store) → Below g r q → a2 r ≡ a2 q) → ((r q : Store) → Below g r q → b3 r ≡ b3 q) → Expands K R f g (val_means c) b1 (val_gives c2) → Expands K R f h (val_means (λ n s. chosen (c n s) (a n) (b n) s)) b2 (val_gives (λ s. chosen (c2 s) a2 b3 s))
  choice_expands f g h at c a b b1 b2 c2 a2 b3 le le2 e sa sb ka kb x =
      let m2 : ℕ → Meaning = λ n s. chosen (c n s) (a n) (b n) s in
      let l2 : Meaning = λ s. chosen (c2 s) a2 b3 s in
      reword K R f g h (val_means m2) (val_means m2) b1 b2 (val_gives l2) (val_gives l2) le2 e (λ n s z u v. v) (λ n s z u v. v) (λ r z v. v) (λ r z v. v)
      (map_expands K R f g (val_means c) (val_gives c2) (val_means m2) (val_gives l2) (λ n s x y d. (r : ℕ) × (one_of (is_zero x) (b n) (a n) s ≡ value y r) × (d ≡ 1 + r)) (λ r x y. (u : ℕ) × (one_of (is_zero x) b3 a2 r ≡ value y u)) b1 (near f le)
      (choice_makes R g c a b c2 a2 b3 sa sb ka kb) x)

  -- ---- where calls may stand

  from_plain : (f g : ℕ) (c : ℕ → Meaning) (before : List TypedStmt) (left : Meaning) → base ≤ f → f ≤ g → Plain c before left → Expands K R f g (val_means c) before (val_gives left)
  from_plain f g c before left le le2 p =
      subst (λ b. Expands K R f g (val_means c) b (val_gives left)) (sym p.none)
      (whole_expands K R f g (val_means c) (val_gives left) le2
      (λ r q x z h. (h.0, sym (p.depends r q (below_less base g r q (omega arith) z)) ∙ h.1))
      (λ n s t x u r h. (u, p.same n s t r ∙ h))
      (λ s t x r h. record { least = 0; uses = h.0; is = λ i. sym (p.same (0 + i) s t r) ∙ h.1 }))

  -- the same values by other words, with more variables
  revalue : (f g g2 : ℕ) (m m2 : ℕ → Meaning) (b1 b2 : List TypedStmt) (l1 l2 : Meaning) → g ≤ g2 → b1 ≡ b2 → ((n : ℕ) (s : Store) → m n s ≡ m2 n s) → ((r : Store) → l1 r ≡ l2 r) → Expands K R f g (val_means m) b1 (val_gives l1) → Expands K R f g2 (val_means m2) b2 (val_gives l2)
  revalue f g g2 m m2 b1 b2 l1 l2 le e h i x =
      reword K R f g g2 (val_means m) (val_means m2) b1 b2 (val_gives l1) (val_gives l2) le e (λ n s z u v. h n s ∙ v) (λ n s z u v. sym (h n s) ∙ v) (λ r z v. (v.0, sym (i r) ∙ v.1)) (λ r z v. (v.0, i r ∙ v.1)) x

  binary_expands : (o : Binary) → Operator o → (f g h : ℕ) (ty : Ty) (at : Span) (c1 c2 : ℕ → Meaning) (b1 b2 : List TypedStmt) (l1 l2 : Meaning) → base ≤ f → g ≤ h → Expands K R f g (val_means c1) b1 (val_gives l1)
      → (both_or_either o ≡ false → Expands K R g h (val_means c2) b2 (val_gives l2)) → (both_or_either o ≡ true → Plain c2 b2 l2)
      → Expands K R f h (val_means (λ n. binary_meaning W.profile o ty at (c1 n) (c2 n))) (b1 ++ b2) (val_gives (binary_meaning W.profile o ty at l1 l2))
  binary_expands o (strict o1 e k0) f g h ty at c1 c2 b1 b2 l1 l2 le le2 x y p =
      let op2 = binary_value W.profile o ty in
      revalue f h h (λ n s. on_two at op2 (c1 n s) (c2 n s)) (λ n. binary_meaning W.profile o ty at (c1 n) (c2 n)) (b1 ++ b2) (b1 ++ b2) (λ s. on_two at op2 (l1 s) (l2 s)) (binary_meaning W.profile o ty at l1 l2) (omega arith) refl
      (λ n s. sym (k0 W.profile ty at (c1 n) (c2 n) s)) (λ r. sym (k0 W.profile ty at l1 l2 r))
      (map_expands K R f h (Two (val_means c1) (val_means c2)) (both_give (val_gives l1) (val_gives l2)) (val_means (λ n s. on_two at op2 (c1 n s) (c2 n s))) (val_gives (λ s. on_two at op2 (l1 s) (l2 s))) (λ n s x y d. (op2 x.0 x.1 ≡ Some y) × (d ≡ 0)) (λ r x y. op2 x.0 x.1 ≡ Some y) (b1 ++ b2) (near f le)
      (two_make R h at op2 c1 c2 l1 l2) (pair_expands K R f g h (val_means c1) (val_means c2) b1 b2 (val_gives l1) (val_gives l2) (near f le) x (y e)))
  binary_expands o both f g h ty at c1 c2 b1 b2 l1 l2 le le2 x y p =
      let q = p refl in
      let fg = x.more in
      choice_expands f g h at c1 (λ n s. as_truth (c2 n s)) (λ n. always (pos 0)) b1 (b1 ++ b2) l1 (λ s. as_truth (l2 s)) (always (pos 0)) le le2 (sym (ap (λ b. b1 ++ b) q.none ∙ append-nil b1))
      (λ n s r z. ap as_truth (q.same n s r z)) (λ n s r z. refl) (λ r w z. ap as_truth (q.depends r w (below_less base g r w (omega arith) z))) (λ r w z. refl) x
  binary_expands o either f g h ty at c1 c2 b1 b2 l1 l2 le le2 x y p =
      let q = p refl in
      let fg = x.more in
      choice_expands f g h at c1 (λ n. always (pos 1)) (λ n s. as_truth (c2 n s)) b1 (b1 ++ b2) l1 (always (pos 1)) (λ s. as_truth (l2 s)) le le2 (sym (ap (λ b. b1 ++ b) q.none ∙ append-nil b1))
      (λ n s r z. refl) (λ n s r z. ap as_truth (q.same n s r z)) (λ r w z. refl) (λ r w z. ap as_truth (q.depends r w (below_less base g r w (omega arith) z))) x

  row_count : (f : ℕ) {n : Count} (row : Row_of-ProgExpr n) → length (inline_row W.writings W.b f row).exprs ≡ length (row_types row)
  row_count f end_of-ProgExpr = refl
  row_count f (more_of-ProgExpr e t at row) = let i = inline_expr W.writings W.b f e at in let h = row_count (f + length i.types) row in ap suc h

  long : (s t : Store) → R s t → length t.vars ≡ W.n
  long s t r = r.count ∙ W.count

  mutual
    pub expands : (f : ℕ) (e : ProgExprKind) (ty : Ty) (at : Span) → base ≤ f → Seg W.Kv f (inline_expr W.writings W.b f e at).types → LawfulCallKind k W.signatures true e ty → ReadsOf vs e
        → Expands K R f (f + length (inline_expr W.writings W.b f e at).types) (val_means (λ n. prog_kind_meaning k (W.calls n) e ty at)) (inline_expr W.writings W.b f e at).before (val_gives (kind_meaning K (inline_expr W.writings W.b f e at).kind ty at))
    expands f (tree.Number n) ty at le seg l c = from_plain f (f + 0) (λ n0. prog_kind_meaning k (W.calls n0) (tree.Number n) ty at) [] (kind_meaning K (expr.Number n) ty at) le (omega arith) (plain f (tree.Number n) ty at l c)
    expands f (tree.Var v) ty at le seg l c = from_plain f (f + 0) (λ n0. prog_kind_meaning k (W.calls n0) (tree.Var v) ty at) [] (kind_meaning K (expr.Var (W.b + v)) ty at) le (omega arith) (plain f (tree.Var v) ty at l c)
    expands f (tree.Element' a n row) ty at le seg l c =
        let o = inline_row W.writings W.b f row in
        let g = f + length o.types in
        let xs : ℕ → List Meaning = λ n. prog_row_meanings k (W.calls n) row in
        let xs2 = map (meaning K) o.exprs in
        let h = expr_element a o.exprs K ty at in
        let own = own_is a l.0.0 l.0.1 in
        revalue f g g (λ n s. element k at s a (all_values (xs n) s)) (λ n0. prog_kind_meaning k (W.calls n0) (tree.Element' a n row) ty at) o.before o.before (λ s. element K at s a (all_values xs2 s)) (kind_meaning K (expr.Element a o.exprs) ty at) (omega arith) refl (λ n s. refl) (λ r. sym (ap (λ c. c r) h))
        (map_expands K R f g (vals_means xs) (vals_gives xs2) (val_means (λ n s. element k at s a (all_values (xs n) s))) (val_gives (λ s. element K at s a (all_values xs2 s))) (λ n s x y d. (element_at s a (place k.arrays a x) ≡ Some y) × (d ≡ 0)) (λ r x y. element_at r a (place K.arrays a x) ≡ Some y) o.before (near f le)
        (element_makes R g k K at a xs xs2 own.0 own.1) (expands_row f row le seg l.1 c))
    expands f (tree.Unary' o x (more_of-ProgExpr e t at0 end_of-ProgExpr)) ty at le seg l c =
        let i = inline_expr W.writings W.b f e at0 in
        let g = f + length i.types in
        let a : ℕ → Meaning = λ n. prog_kind_meaning k (W.calls n) e t at0 in
        let a2 = kind_meaning K i.kind t at0 in
        let h = expr_unary o (of_type i.kind t at0) K ty at in
        let f1 = unary_value W.profile o ty in
        revalue f g g (λ n s. on_one at f1 (a n s)) (λ n s. on_one at f1 (a n s)) i.before i.before (λ s. on_one at f1 (a2 s)) (kind_meaning K (expr.Unary o (of_type i.kind t at0)) ty at) (omega arith) refl (λ n s. refl) (λ r. sym (ap (λ c. c r) h))
        (map_expands K R f g (val_means a) (val_gives a2) (val_means (λ n s. on_one at f1 (a n s))) (val_gives (λ s. on_one at f1 (a2 s))) (λ n s x y d. (f1 x ≡ Some y) × (d ≡ 0)) (λ r x y. f1 x ≡ Some y) i.before (near f le)
        (one_makes R g at f1 a a2) (expands f e t at0 le seg l.2 c))
    expands f (tree.Cast' implied x (more_of-ProgExpr e t at0 end_of-ProgExpr)) ty at le seg l c =
        let i = inline_expr W.writings W.b f e at0 in
        let g = f + length i.types in
        let a : ℕ → Meaning = λ n. prog_kind_meaning k (W.calls n) e t at0 in
        let a2 = kind_meaning K i.kind t at0 in
        let h = expr_cast implied (of_type i.kind t at0) K ty at in
        let f1 : ℤ → Option ℤ = λ x. Some (conv ty x) in
        revalue f g g (λ n s. on_one at f1 (a n s)) (λ n s. on_one at f1 (a n s)) i.before i.before (λ s. on_one at f1 (a2 s)) (kind_meaning K (expr.Cast implied (of_type i.kind t at0)) ty at) (omega arith) refl (λ n s. refl) (λ r. sym (ap (λ c. c r) h))
        (map_expands K R f g (val_means a) (val_gives a2) (val_means (λ n s. on_one at f1 (a n s))) (val_gives (λ s. on_one at f1 (a2 s))) (λ n s x y d. (f1 x ≡ Some y) × (d ≡ 0)) (λ r x y. f1 x ≡ Some y) i.before (near f le)
        (one_makes R g at f1 a a2) (expands f e t at0 le seg l.1 c))
    expands f (tree.Binary' o x (more_of-ProgExpr e t at0 end_of-ProgExpr) x2 (more_of-ProgExpr e2 t2 at2 end_of-ProgExpr)) ty at le seg l c =
        let i = inline_expr W.writings W.b f e at0 in
        let g = f + length i.types in
        let i2 = inline_expr W.writings W.b g e2 at2 in
        let h = g + length i2.types in
        let size = length-append i.types i2.types in
        let a : ℕ → Meaning = λ n. prog_kind_meaning k (W.calls n) e t at0 in
        let b : ℕ → Meaning = λ n. prog_kind_meaning k (W.calls n) e2 t2 at2 in
        let a2 = kind_meaning K i.kind t at0 in
        let b2 = kind_meaning K i2.kind t2 at2 in
        let q = expr_binary o (of_type i.kind t at0) (of_type i2.kind t2 at2) K ty at in
        revalue f h (f + length (i.types ++ i2.types)) (λ n. binary_meaning W.profile o ty at (a n) (b n)) (λ n. binary_meaning W.profile o ty at (a n) (b n)) (i.before ++ i2.before) (i.before ++ i2.before) (binary_meaning W.profile o ty at a2 b2) (kind_meaning K (expr.Binary o (of_type i.kind t at0) (of_type i2.kind t2 at2)) ty at)
        (omega arith) refl (λ n s. refl) (λ r. sym (ap (λ c. c r) q))
        (binary_expands o (operator o) f g h ty at a b i.before i2.before a2 b2 le (omega arith) (expands f e t at0 le (seg_first W.Kv f i.types i2.types seg) l.1 c.0)
        (λ z. expands g e2 t2 at2 (omega arith) (seg_rest W.Kv f i.types i2.types seg) (subst (λ w. LawfulCallKind k W.signatures (may_where w true) e2 t2) z l.2) c.1)
        (λ z. plain g e2 t2 at2 (subst (λ w. LawfulCallKind k W.signatures (may_where w true) e2 t2) z l.2) c.1))
    expands f (tree.Choose' x (more_of-ProgExpr e t at0 end_of-ProgExpr) x2 (more_of-ProgExpr e2 t2 at2 end_of-ProgExpr) x3 (more_of-ProgExpr e3 t3 at3 end_of-ProgExpr)) ty at le seg l c =
        let i = inline_expr W.writings W.b f e at0 in
        let g = f + length i.types in
        let i2 = inline_expr W.writings W.b g e2 at2 in
        let i3 = inline_expr W.writings W.b (g + length i2.types) e3 at3 in
        let size = length-append i.types (i2.types ++ i3.types) in
        let p2 = plain g e2 t2 at2 l.2 c.1 in
        let p3 = plain (g + length i2.types) e3 t3 at3 l.3 c.2 in
        let q = expr_choose (of_type i.kind t at0) (of_type i2.kind t2 at2) (of_type i3.kind t3 at3) K ty at in
        let c1 : ℕ → Meaning = λ n. prog_kind_meaning k (W.calls n) e t at0 in
        let a : ℕ → Meaning = λ n. prog_kind_meaning k (W.calls n) e2 t2 at2 in
        let b : ℕ → Meaning = λ n. prog_kind_meaning k (W.calls n) e3 t3 at3 in
        let l1 = kind_meaning K i.kind t at0 in
        let a2 = kind_meaning K i2.kind t2 at2 in
        let b2 = kind_meaning K i3.kind t3 at3 in
        let z : f + length (i.types ++ (i2.types ++ i3.types)) ≡ g + length (i2.types ++ i3.types) = omega arith in
        let h = f + length (i.types ++ (i2.types ++ i3.types)) in
        let e1 = expands f e t at0 le (seg_first W.Kv f i.types (i2.types ++ i3.types) seg) l.1 c.0 in
        revalue f h h (λ n s. chosen (c1 n s) (a n) (b n) s) (λ n s. chosen (c1 n s) (a n) (b n) s) (i.before ++ (i2.before ++ i3.before)) (i.before ++ (i2.before ++ i3.before)) (λ s. chosen (l1 s) a2 b2 s) (kind_meaning K (expr.Choose (of_type i.kind t at0) (of_type i2.kind t2 at2) (of_type i3.kind t3 at3)) ty at)
        (omega arith) refl (λ n s. refl) (λ r. sym (ap (λ c. c r) q))
        (choice_expands f g h at c1 a b i.before (i.before ++ (i2.before ++ i3.before)) l1 a2 b2 le (omega arith)
        (sym (ap (λ b. i.before ++ b) (no_blocks i2.before i3.before p2.none p3.none) ∙ append-nil i.before))
        p2.same p3.same (λ r w y. p2.depends r w (below_less base g r w (omega arith) y)) (λ r w y. p3.depends r w (below_less base g r w (omega arith) y)) e1)
    expands f (tree.Call' h n row) ty at le seg l c =
        let o = inline_row W.writings W.b f row in
        let g = f + length o.types in
        let w = written_by (slice_get W.writings h) g o.exprs at in
        let size = length-append o.types w.types in
        let facts = call_facts W.signatures true h (row_types row) ty l.0 in
        let e = expands_row f row le (seg_first W.Kv f o.types w.types seg) l.1 c in
        let block = W.written h facts.signature facts.is g o.exprs at (row_count f row ∙ ap length facts.params) (seg_rest W.Kv f o.types w.types seg) (row_depends f row le (seg_first W.Kv f o.types w.types seg) l.1 c) in
        let cs : ℕ → Called = λ i. called_by (slice_get (W.calls i) h) in
        let xs : ℕ → List Meaning = λ n. prog_row_meanings k (W.calls n) row in
        revalue f (g + length w.types) (f + length (o.types ++ w.types)) (λ n s. called (cs n) (all_values (xs n) s)) (λ n s. called (cs n) (all_values (xs n) s)) (o.before ++ w.block ∷ []) (o.before ++ w.block ∷ []) (λ r. after_turns at 0 (read_var r w.fresh)) (kind_meaning K (expr.Var w.fresh) ty at)
        (omega arith) refl (λ n s. refl) (λ r. refl)
        (call_expands W.n K R f g (g + length w.types) xs (vals_gives (map (meaning K) o.exprs)) o.before w.block w.fresh cs at (near f le) long e block)

    pub expands_row : (f : ℕ) {n : Count} (row : Row_of-ProgExpr n) → base ≤ f → Seg W.Kv f (inline_row W.writings W.b f row).types → LawfulCallRow k W.signatures true row → RowReadsOf vs row
        → Expands K R f (f + length (inline_row W.writings W.b f row).types) (vals_means (λ n. prog_row_meanings k (W.calls n) row)) (inline_row W.writings W.b f row).before (vals_gives (map (meaning K) (inline_row W.writings W.b f row).exprs))
    expands_row f end_of-ProgExpr le seg l c = no_expands f le
    expands_row f (more_of-ProgExpr e t at row) le seg l c =
        let i = inline_expr W.writings W.b f e at in
        let g = f + length i.types in
        let o = inline_row W.writings W.b g row in
        let h = g + length o.types in
        let size = length-append i.types o.types in
        let z : g + length o.types ≡ f + length (i.types ++ o.types) = omega arith in
        let a : ℕ → Meaning = λ n. prog_kind_meaning k (W.calls n) e t at in
        let xs : ℕ → List Meaning = λ n. prog_row_meanings k (W.calls n) row in
        subst (λ j. Expands K R f j (vals_means (λ n. a n ∷ xs n)) (i.before ++ o.before) (vals_gives (kind_meaning K i.kind t at ∷ map (meaning K) o.exprs))) z
        (cons_expands f g h a xs i.before o.before (kind_meaning K i.kind t at) (map (meaning K) o.exprs) le (expands f e t at le (seg_first W.Kv f i.types o.types seg) l.0 c.0)
        (expands_row g row (omega arith) (seg_rest W.Kv f i.types o.types seg) l.1 c.1))

    row_depends : (f : ℕ) {n : Count} (row : Row_of-ProgExpr n) → base ≤ f → Seg W.Kv f (inline_row W.writings W.b f row).types → LawfulCallRow k W.signatures true row → RowReadsOf vs row
        → EachDepends K (f + length (inline_row W.writings W.b f row).types) (inline_row W.writings W.b f row).exprs
    row_depends f end_of-ProgExpr le seg l c = tt
    row_depends f (more_of-ProgExpr e t at row) le seg l c =
        let i = inline_expr W.writings W.b f e at in
        let g = f + length i.types in
        let o = inline_row W.writings W.b g row in
        let size = length-append i.types o.types in
        let x = expands f e t at le (seg_first W.Kv f i.types o.types seg) l.0 c.0 in
        let all = f + length (i.types ++ o.types) in
        ((λ r q z w h. x.depends r q z (below_less g all r q (omega arith) w) h), each_less K (g + length o.types) all o.exprs (omega arith) (row_depends g row (omega arith) (seg_rest W.Kv f i.types o.types seg) l.1 c.1))
