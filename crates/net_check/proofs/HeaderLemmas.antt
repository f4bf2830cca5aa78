-- Rule C8 from the first units of each sort.
use Rattle.std.proofs.Common.{◌≡◌, ◌⊎◌, inl, inr, ℕ, ◌+◌, ◌<◌, ◌≤◌, Bool, true, false, Option, None, is_some, List, length, get_or, subst, sym, ap, refl, ◌∙◌, arith, below_more}
use Rattle.std.specs.List.{count_by}
use Rattle.std.proofs.lemmas.Bool.{cases_lt, or_parts, leb-false}
use Rattle.net_types.specs.declared.net.Net.{Net}
use Rattle.net_types.specs.declared.net.Unit.{Unit as Kind}
use Rattle.net_types.specs.Nets.{kind_of}
use Rattle.net_check.specs.Lowest.{IsLowest}
use Rattle.net_check.specs.Headers.{is_entry, is_exit, is_param, is_queue, is_read, IsNamed, IsFaultyC8, IsHeader, KeepsC8}
use Rattle.net_check.specs.private.Firsts.{IsFirst}
use Rattle.net_check.specs.private.Tallies.{IsTallied, IsComplete, is_faulty}
use Rattle.net_check.proofs.MarkLemmas.{default}
use Rattle.net_check.proofs.FirstLemmas.{kind_read, all_units}
use Rattle.net_check.proofs.TallyLemmas.{Fault, faulty, not_faulty, named_of, count_none, whole, none_passes, one_at_most, exactly_one, entry_told, exit_told, param_told, queue_told, read_told}

-- none of the units below n is at fault
abbrev pub NoneFaulty : Net → Option ℕ → Option ℕ → List (Option ℕ) → List (Option ℕ) → ℕ → Type 0
NoneFaulty net e x ps qs n = (v : ℕ) → v < n → is_faulty e x ps qs v (kind_of net v) ≡ false

pub first_fault : (net : Net) (e x : Option ℕ) (ps qs : List (Option ℕ)) (u : ℕ) (k : Kind) (b : Bool) → u < length net.units → k ≡ get_or net.units u k → IsTallied net e x ps qs
    → NoneFaulty net e x ps qs u → b ≡ is_faulty e x ps qs u k → b ≡ true → IsLowest (IsFaultyC8 net) u
first_fault net e x ps qs u k b l r t n f y = record {
  here = record {
    within = l;
    fault = (let P : Kind → Type 0 = Fault net u in subst P (kind_read net u k l r) (faulty net e x ps qs u k (omega arith) t (sym f ∙ y)));
  };
  below = λ v h i. not_faulty net e x ps qs v (kind_of net v) (omega arith) t (n v h) i.fault;
}

pub more_none : (net : Net) (e x : Option ℕ) (ps qs : List (Option ℕ)) (u : ℕ) (k : Kind) (b : Bool) → u < length net.units → k ≡ get_or net.units u k
    → NoneFaulty net e x ps qs u → b ≡ is_faulty e x ps qs u k → b ≡ false → NoneFaulty net e x ps qs (u + 1)
more_none net e x ps qs u k b l r n f y = below_more _ _ n (let P : Kind → Type 0 = λ z. is_faulty e x ps qs u z ≡ false in subst P (kind_read net u k l r) (sym f ∙ y))

pub no_fault : (net : Net) (e x : Option ℕ) (ps qs : List (Option ℕ)) (n : ℕ) → length net.units ≤ n → IsTallied net e x ps qs → NoneFaulty net e x ps qs n → (u : ℕ) → IsFaultyC8 net u → ⊥
no_fault net e x ps qs n l t f u i = let w = i.within in not_faulty net e x ps qs u (kind_of net u) (omega arith) t (f u (omega arith)) i.fault

-- the header is right, the sorts are complete and no unit is at fault
pub keeps_of : (net : Net) (e x : Option ℕ) (ps qs : List (Option ℕ)) (n : ℕ) → length net.units ≤ n → IsTallied net e x ps qs → NoneFaulty net e x ps qs n → IsComplete e x ps → IsHeader net → KeepsC8 net
keeps_of net e x ps qs n l t f c h = record {
  header = h;
  one_entry = exactly_one is_entry net.units e t.entry c.entry (λ u w y. entry_told e x ps qs u _ y (none u w));
  one_exit = exactly_one is_exit net.units x t.exit c.exit (λ u w y. exit_told e x ps qs u _ y (none u w));
  one_param = λ j w. exactly_one (is_param j) net.units (get_or ps j None) (t.params j w) (c.params j None (let z = t.params_len in omega arith)) (λ u v y. (or_parts _ _ (param_told e x ps qs u j _ y (none u v))).1);
  named = all_units net (IsNamed net) (λ u w. named_of net e x ps qs u _ t (none u w));
  one_queue = λ a. queue a (cases_lt a (length net.arrays));
  unread = λ a p. sym (whole (is_read a) net.units) ∙ count_none (is_read a) net.units (length net.units) (omega arith) (λ u w. read a p u w (is_read a (kind_of net u)) refl);
}
  where
    none : (u : ℕ) → u < length net.units → is_faulty e x ps qs u (kind_of net u) ≡ false
    none u w = f u (omega arith)

    queue : (a : ℕ) → (a < length net.arrays) ⊎ (length net.arrays ≤ a) → count_by (is_queue a) net.units ≤ 1
    queue a (inl w) = one_at_most (is_queue a) net.units (get_or qs a None) (t.queues a w) (λ u v y. (or_parts _ _ (queue_told e x ps qs u a _ y (none u v))).1)
    queue a (inr w) = one_at_most (is_queue a) net.units None (λ u v. past u v (is_queue a (kind_of net u)) refl) (λ u v y. refl)
      where
        past : (u : ℕ) → u < length net.units → (b : Bool) → is_queue a (kind_of net u) ≡ b → is_queue a (kind_of net u) ≡ false
        past u v true y = let z : a < length qs = leb-false _ _ (or_parts _ _ (queue_told e x ps qs u a _ y (none u v))).0 in let q = t.queues_len in absurd (omega arith)
        past u v false y = y

    read : (a : ℕ) → 0 < count_by (is_queue a) net.units → (u : ℕ) → u < length net.units → (b : Bool) → is_read a (kind_of net u) ≡ b → is_read a (kind_of net u) ≡ false
    read a p u w true y =
        let k = or_parts _ _ (read_told e x ps qs u a _ y (none u w)) in
        let z : a < length qs = leb-false _ _ k.0 in
        let q = t.queues_len in
        let o : count_by (is_queue a) net.units ≡ 0 = none_passes (is_queue a) net.units (get_or qs a None) (t.queues a (omega arith)) k.1 in
        absurd (omega arith)
    read a p u w false y = y

-- a net that keeps the rule is complete
pub complete_of : (net : Net) (e x : Option ℕ) (ps qs : List (Option ℕ)) → IsTallied net e x ps qs → KeepsC8 net → IsComplete e x ps
complete_of net e x ps qs t k = record {
  entry = there is_entry e t.entry k.one_entry (is_some e) refl;
  exit = there is_exit x t.exit k.one_exit (is_some x) refl;
  params = λ j d w. (let z = t.params_len in let y : j < length net.scalars = omega arith in
      let s : is_some (get_or ps j None) ≡ true = there (is_param j) (get_or ps j None) (t.params j y) (k.one_param j y) (is_some (get_or ps j None)) refl in
      ap is_some (default ps j d None w) ∙ s);
}
  where
    there : (q : Kind → Bool) (o : Option ℕ) → IsFirst q net.units (length net.units) o → count_by q net.units ≡ 1 → (b : Bool) → is_some o ≡ b → is_some o ≡ true
    there q o f c true y = y
    there q o f c false y = let z = none_passes q net.units o f y in absurd (omega arith)
