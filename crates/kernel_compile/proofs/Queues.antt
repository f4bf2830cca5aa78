-- The queues of a kernel's net: each is that of an array that is stored to, and has the mark as it is asked for.
use Rattle.std.proofs.Common.{◌≡◌, ℕ, zero, suc, ◌<◌, Bool, true, false, cond, Option, Some, None, List, [], ◌∷◌, length, get_or, refl, sym, ap, subst, ◌∙◌, arith}
use Rattle.std.specs.Prelude.{count_by, slice_get}
use Rattle.std.proofs.lemmas.Bool.{eq-eqb}
use Rattle.std.proofs.lemmas.List.{get_or_default}
use Rattle.std.proofs.lemmas.List.Sums.{sum_by-cons}
use Rattle.std.proofs.lemmas.Option.{slice_get-get_or}
use Rattle.el_base.specs.Headers.{Header}
use Rattle.ir.specs.declared.groups.Groups.{Groups}
use Rattle.ir.specs.Accesses.{GroupsShare}
use Rattle.ir.specs.Graphs.{Graph}
use Rattle.net_types.specs.declared.net.Net.{Net}
use Rattle.net_types.specs.declared.net.Port.{Port}
use Rattle.net_types.specs.declared.net.Unit.{Unit as Kind}
use Rattle.net_types.specs.declared.net.Unit.TheVariants.{Sink, Lsq}
use Rattle.net_types.specs.Nets.{kind_of, uses, owns}
use Rattle.net_check.specs.Checks.{IsChecked}
use Rattle.net_check.specs.Headers.{IsNamed, is_queue}
use Rattle.net_check.specs.Retimed.{SamePlain}
use Rattle.circuit_build.specs.Counted.{queue_for}
use Rattle.circuit_build.specs.Kept.{BuildShare}
use Rattle.queue_marks.specs.Laws.{QueuesHaveMark}
use Rattle.queue_marks.specs.Marked.{marked, HasMark}
use Rattle.kernel_compile.proofs.Slots.{kinds_same}

-- what a test says of a unit, it says of some unit of the list
module _ (q : Kind → Bool) (past : q (Sink 0) ≡ false) where
  stands : (ks : List Kind) (u : ℕ) → q (get_or ks u (Sink 0)) ≡ true → u < length ks
  stands [] u h = absurd (cc)
  stands (k ∷ ks) zero h = omega arith
  stands (k ∷ ks) (suc u) h = let i = stands ks u h in omega arith

  counts : (ks : List Kind) (u : ℕ) → q (get_or ks u (Sink 0)) ≡ true → 0 < count_by q ks
  counts [] u h = absurd (cc)
  counts (k ∷ ks) zero h =
      let e : cond {A = ℕ} (q k) 1 0 ≡ 1 = ap {B = ℕ} (λ b. cond b 1 0) h in
      omega (arith, sum_by-cons (λ x. cond (q x) 1 0) k ks)
  counts (k ∷ ks) (suc u) h = let i = counts ks u h in omega (arith, sum_by-cons (λ x. cond (q x) 1 0) k ks)

module _ (g : Graph) (gs : Groups) (net : Net) (share : GroupsShare g gs) (laid : BuildShare g gs net) where
  module _ (u a depth : ℕ) (ports : List Port) (groups : List (List ℕ)) (mark : Bool) (is : kind_of net u ≡ Lsq a depth ports groups mark) where
    queue_here : is_queue a (kind_of net u) ≡ true
    queue_here = ap (is_queue a) is ∙ eq-eqb a a refl

    array_within : a < length gs.read_only
    array_within =
        let here = stands (is_queue a) refl net.units u queue_here in
        let named : a < length net.arrays = subst (IsNamed net) is (laid.rules.c8.named u (Sink 0) here) in
        let same : length net.arrays ≡ length g.arrays = ap (λ (h : Header). length h.arrays) laid.header in
        let m = share.as_many in
        omega arith

    -- some step stores to its array
    pub queue_stored : slice_get gs.read_only a ≡ Some false
    queue_stored = by (slice_get gs.read_only a) refl
      where
        by : (o : Option Bool) → slice_get gs.read_only a ≡ o → slice_get gs.read_only a ≡ Some false
        by None e = let s = slice_get-get_or gs.read_only a false array_within in absurd (cc)
        by (Some false) e = e
        by (Some true) e =
            let none = laid.served.no_queue a e in
            let some = counts (is_queue a) refl net.units u queue_here in
            absurd (omega arith)

  module _ (net2 : Net) (same : SamePlain net net2) (checked : IsChecked net2) where
    pub plain_unmarked : HasMark false net
    plain_unmarked u a depth ports groups mark is =
        let w = laid.served.queue_is a (queue_stored u a depth ports groups mark is) in
        let there : kind_of net w.0 ≡ queue_for g gs a = get_or_default net.units w.0 (Sink 0) (queue_for g gs a) w.1 ∙ w.2 in
        let one : w.0 ≡ u = checked.alone u w.0 a (ap owns (kinds_same net net2 same u ∙ is)) (ap uses (kinds_same net net2 same w.0 ∙ there)) in
        let equal : Lsq a depth ports groups mark ≡ queue_for g gs a = sym is ∙ (ap (kind_of net) (sym one) ∙ there) in
        cc

-- slots and delays change no mark
marks_same : (forward : Bool) (net net2 : Net) → SamePlain net net2 → HasMark forward net → HasMark forward net2
marks_same forward net net2 same h u a depth ports groups mark is = h u a depth ports groups mark (sym (kinds_same net net2 same u) ∙ is)

pub marks_asked : QueuesHaveMark → (forward : Bool) (g : Graph) (gs : Groups) (net net2 : Net) → GroupsShare g gs → BuildShare g gs net → SamePlain (marked forward net) net2
    → IsChecked net2 → HasMark forward net2
marks_asked have true g gs net net2 share laid same checked = marks_same true (marked true net) net2 same (have net)
marks_asked have false g gs net net2 share laid same checked = marks_same false net net2 same (plain_unmarked g gs net share laid net2 same checked)
