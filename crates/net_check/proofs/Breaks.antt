-- A net with a culprit breaks the rule.
use Rattle.std.proofs.Common.{◌≡◌, ◌⊎◌, inl, inr, ℕ, ◌+◌, ◌<◌, ◌≤◌, Bool, true, List, length, get_or, take, subst, ap, refl, ◌∙◌, arith, cond, eq-eqb}
use Rattle.std.specs.List.{count_by}
use Rattle.std.proofs.lemmas.List.Sums.{sum_by-take-le}
use Rattle.net_types.specs.declared.net.Net.{Net}
use Rattle.net_types.specs.declared.net.Unit.{Unit as Kind}
use Rattle.net_types.specs.declared.net.Unit.TheVariants.{Entry, Param, Sink, Read, Lsq, Exit}
use Rattle.net_types.specs.Nets.{kind_of, nowhere}
use Rattle.net_types.specs.Rules.{KeepsC2}
use Rattle.net_check.specs.declared.refusal.At.{At}
use Rattle.net_check.specs.declared.refusal.At.TheVariants as «at»
use Rattle.net_check.specs.Headers.{is_entry, is_exit, is_param, is_queue, is_read, IsNamed, IsSecond, ReadsQueued, IsFaultyC8, KeepsC8, CulpritC8}
use Rattle.net_check.specs.Shapes.{KeepsC7, CulpritC7}
use Rattle.net_check.specs.Sizes.{KeepsC3, CulpritC3}
use Rattle.net_check.specs.Places.{CulpritC2}
use Rattle.net_check.proofs.TallyLemmas.{one_if, count_more, count_some, whole}

pub breaks_shapes : (net : Net) (x : At) → CulpritC7 net x → KeepsC7 net → ⊥
breaks_shapes net (at.Unit u) c k = c.here.lacks (k.units u (Sink 0) c.here.within)
breaks_shapes net (at.Chan d) c k = c
breaks_shapes net at.Net c k = c

pub breaks_sizes : (net : Net) (x : At) → CulpritC3 net x → KeepsC3 net → ⊥
breaks_sizes net (at.Unit u) c k = c
breaks_sizes net (at.Chan d) c k = c.here.lacks (k.chans d nowhere c.here.within)
breaks_sizes net at.Net c k = let a = c.1 in let b = k.together in omega arith

pub breaks_widths : (net : Net) (x : At) → CulpritC2 net x → KeepsC2 net → ⊥
breaks_widths net (at.Unit u) c k = c.here.lacks (k.units u (Sink 0) c.here.within)
breaks_widths net (at.Chan d) c k = c.1.here.lacks (k.chans d nowhere c.1.here.within)
breaks_widths net at.Net c k = c

-- two units pass where one passes before a second that does
pub two : (q : Kind → Bool) (units : List Kind) (u : ℕ) → u < length units → q (get_or units u (Sink 0)) ≡ true → 0 < count_by q (take u units) → 2 ≤ count_by q units
two q units u l t p =
    let a = count_more q units u l in
    let b : one_if (q (get_or units u (Sink 0))) ≡ 1 = ap one_if t in
    let s = sum_by-take-le (λ x. cond (q x) 1 0) units (u + 1) in
    omega arith

faulty_breaks : (net : Net) (u : ℕ) → IsFaultyC8 net u → KeepsC8 net → ⊥
faulty_breaks net u f k = by (kind_of net u) refl f.fault
  where
    at_two : (q : Kind → Bool) → q (kind_of net u) ≡ true → 0 < count_by q (take u net.units) → 2 ≤ count_by q net.units
    at_two q t p = two q net.units u f.within t p

    tested : (q : Kind → Bool) (x : Kind) → kind_of net u ≡ x → q x ≡ true → q (kind_of net u) ≡ true
    tested q x e t = ap q e ∙ t

    by : (x : Kind) → kind_of net u ≡ x → (IsNamed net x → ⊥) ⊎ (IsSecond (take u net.units) x ⊎ ReadsQueued net x) → ⊥
    by x e (inl n) = let P : Kind → Type 0 = IsNamed net in n (subst P e (k.named u (Sink 0) f.within))
    by Entry e (inr (inl s)) = let a = at_two is_entry (tested is_entry Entry e refl) s in let b = k.one_entry in omega arith
    by Exit e (inr (inl s)) = let a = at_two is_exit (tested is_exit Exit e refl) s in let b = k.one_exit in omega arith
    by (Param j) e (inr (inl s)) =
        let a = at_two (is_param j) (tested (is_param j) (Param j) e (eq-eqb j j refl)) s in
        let P : Kind → Type 0 = IsNamed net in
        let l : j < length net.scalars = subst P e (k.named u (Sink 0) f.within) in
        let b = k.one_param j l in omega arith
    by (Lsq a d ps gs f) e (inr (inl s)) = let x = at_two (is_queue a) (tested (is_queue a) (Lsq a d ps gs f) e (eq-eqb a a refl)) s in let b = k.one_queue a in omega arith
    by (Read a) e (inr (inr s)) =
        let z = k.unread a s in
        let c = count_some (is_read a) net.units (length net.units) u (omega arith) f.within (tested (is_read a) (Read a) e (eq-eqb a a refl)) in
        let w = whole (is_read a) net.units in omega arith
    by _ e (inr (inl s)) = s
    by _ e (inr (inr s)) = s

pub breaks_header : (net : Net) (x : At) → CulpritC8 net x → KeepsC8 net → ⊥
breaks_header net (at.Unit u) c k = faulty_breaks net u c.here k
breaks_header net (at.Chan d) c k = c
breaks_header net at.Net c k = c.1 k
