-- Queues after acts, put together from their parts, and the entries of a group, one after another.
use Rattle.std.proofs.Common.{◌≡◌, ℕ, suc, zero, ◌+◌, ◌<◌, ◌≤◌, ◌⊎◌, Bool, List, [], ◌∷◌, ◌++◌, length, length-append, get_or, take, refl, sym, ap, ◌∙◌, inl, inr, arith}
use Rattle.net_types.specs.declared.net.Port.{Port}
use Rattle.net_types.specs.declared.net.Port.TheVariants.{Load}
use Rattle.lsq_core.specs.declared.entry.Entry.{Entry}
use Rattle.lsq_core.specs.Acts.{fresh, fresh_entry, is_store}
use Rattle.std.specs.List.{All}
use Rattle.std.proofs.lemmas.Bool.{cases_lt}
use Rattle.std.proofs.lemmas.List.{get_or_past}
use Rattle.net_types.specs.Queues.{IsGroup}
use Rattle.lsq_core.specs.Views.{QueueView, GroupsWithin}
use Rattle.lsq_core.proofs.KeepLemmas.{length-fresh}

-- a queue of these parts
pub view_is : (q v : QueueView) → q.queue.forward ≡ v.queue.forward → q.queue.next ≡ v.queue.next → q.queue.items ≡ v.queue.items → q.array ≡ v.array → q.depth ≡ v.depth → q.ports ≡ v.ports → q.groups ≡ v.groups → q ≡ v
view_is q v f n x a d p g = λ i. record { queue = record { forward = f i; next = n i; items = x i }; array = a i; depth = d i; ports = p i; groups = g i }

length_taken : (i : ℕ) (g : List ℕ) → i ≤ length g → length (take i g) ≡ i
length_taken zero g l = refl
length_taken (suc i) [] l = absurd (omega arith)
length_taken (suc i) (p ∷ g) l = ap suc (length_taken i g (omega arith))

-- a group that fits leaves room for each of its entries
pub room_left : (old new : List Entry) (n : ℕ) (ports : List Port) (g : List ℕ) (i d : ℕ) → new ≡ old ++ fresh n ports (take i g) → i < length g → length old + length g ≤ d → length new < d
room_left old new n ports g i d e l room =
    let a = ap length e ∙ length-append old (fresh n ports (take i g)) in
    let b = length-fresh n ports (take i g) in
    let c = length_taken i g (omega arith) in
    omega arith

-- one more entry of a group
fresh_more : (n : ℕ) (ports : List Port) (g : List ℕ) (i : ℕ) → i < length g
    → fresh n ports (take (suc i) g) ≡ fresh n ports (take i g) ++ fresh_entry (n + i) (get_or g i 0) (is_store (get_or ports (get_or g i 0) Load)) ∷ []
fresh_more n ports [] i l = absurd (omega arith)
fresh_more n ports (p ∷ g) zero l = let z : n + 0 ≡ n = omega arith in rw z refl
fresh_more n ports (p ∷ g) (suc i) l =
    let z : n + suc i ≡ suc n + i = omega arith in
    rw z (ap (λ xs. fresh_entry n p (is_store (get_or ports p Load)) ∷ xs) (fresh_more (suc n) ports g i (omega arith)))

join-join : (xs ys zs : List Entry) → (xs ++ ys) ++ zs ≡ xs ++ (ys ++ zs)
join-join [] ys zs = refl
join-join (x ∷ xs) ys zs = ap (λ r. x ∷ r) (join-join xs ys zs)

pub fresh_step : (old xs new : List Entry) (n m p i : ℕ) (b : Bool) (ports : List Port) (g : List ℕ) → i < length g → p ≡ get_or g i 0
    → xs ≡ old ++ fresh n ports (take i g) → m ≡ n + i → b ≡ is_store (get_or ports p Load) → new ≡ xs ++ fresh_entry m p b ∷ []
    → new ≡ old ++ fresh n ports (take (i + 1) g)
fresh_step old xs new n m p i b ports g l is before at store after =
    let j : i + 1 ≡ suc i = omega arith in
    let s : b ≡ is_store (get_or ports (get_or g i 0) Load) = store ∙ ap (λ q. is_store (get_or ports q Load)) is in
    let y : fresh_entry m p b ≡ fresh_entry (n + i) (get_or g i 0) (is_store (get_or ports (get_or g i 0) Load)) = (λ k. fresh_entry (at k) (is k) (s k)) in
    after ∙ ap (λ z. xs ++ z ∷ []) y ∙ ap (λ z. z ++ fresh_entry (n + i) (get_or g i 0) (is_store (get_or ports (get_or g i 0) Load)) ∷ []) before
    ∙ join-join old (fresh n ports (take i g)) _ ∙ ap (λ z. old ++ z) (sym (fresh_more n ports g i l)) ∙ ap (λ k. old ++ fresh n ports (take k g)) (sym j)

-- the groups of a shape are of its ports
pub groups_within : (n d : ℕ) (groups : List (List ℕ)) → All (IsGroup d n) groups → GroupsWithin n groups
groups_within n d groups all g i l = by (cases_lt g (length groups))
  where
    by : (g < length groups) ⊎ (length groups ≤ g) → get_or (get_or groups g []) i 0 < n
    by (inl b) = (all g [] b).named i 0 l
    by (inr b) = let e = ap length (get_or_past groups g [] b) in absurd (omega arith)
