-- Lists of acts, one act after another.
use Rattle.std.proofs.Common.{◌≡◌, ℕ, suc, zero, ◌+◌, ◌<◌, ◌≤◌, nat_lt, nat_le, true, Option, Some, None, List, [], ◌∷◌, ◌++◌, length, take, get_or, refl, ap, ◌∙◌, arith, leb-true}
use Rattle.std.specs.List.{find}
use Rattle.net_types.specs.declared.firing.Act.{Act}
use Rattle.net_types.specs.declared.firing.Act.TheVariants.{Alloc, Exec}
use Rattle.lsq_core.specs.declared.entry.Entry.{Entry}
use Rattle.lsq_core.specs.Acts.{is_serial, exec}
use Rattle.lsq_core.specs.Views.{QueueView, allows, given, acted}
use Rattle.lsq_core.specs.Runs.{all_allowed, after_acts, puts_of, put_before, put_list, act_at}
use Rattle.lsq_core.proofs.EntryLemmas.{and_inv}

-- an act that is allowed raises the next serial number by at most the depth
pub next_raised : (q : QueueView) (a : Act) (v n : ℕ) → allows q a ≡ true → q.depth ≤ n → (acted q a v).queue.next ≤ q.queue.next + n
next_raised q (Alloc g) v n h l =
    let w = and_inv (nat_lt g (length q.groups)) (nat_le (length q.queue.items + length (get_or q.groups g [])) q.depth) h in
    let m : length q.queue.items + length (get_or q.groups g []) ≤ q.depth = leb-true _ _ w.1 in
    omega arith
next_raised q (Exec e) v n h l = at (find (is_serial e) q.queue.items)
  where
    at : (o : Option Entry) → (exec q.queue q.array e o).queue.next ≤ q.queue.next + n
    at None = omega arith
    at (Some x) = omega arith
next_raised q _ v n h l = omega arith

-- one act more
pub allowed_more : (q : QueueView) (acts : List (Act × ℕ)) (i : ℕ) → i < length acts → all_allowed q (take i acts) ≡ true
    → allows (after_acts q (take i acts)) (act_at acts i).0 ≡ true → all_allowed q (take (suc i) acts) ≡ true
allowed_more q [] i l h g = absurd (omega arith)
allowed_more q (a ∷ acts) zero l h g = rw g refl
allowed_more q (a ∷ acts) (suc i) l h g =
    let w = and_inv (allows q a.0) (all_allowed (acted q a.0 a.1) (take i acts)) h in
    rw (w.0, allowed_more (acted q a.0 a.1) acts i (omega arith) w.1 g) refl

pub after_more : (q : QueueView) (acts : List (Act × ℕ)) (i : ℕ) → i < length acts
    → after_acts q (take (suc i) acts) ≡ acted (after_acts q (take i acts)) (act_at acts i).0 (act_at acts i).1
after_more q [] i l = absurd (omega arith)
after_more q (a ∷ acts) zero l = refl
after_more q (a ∷ acts) (suc i) l = after_more (acted q a.0 a.1) acts i (omega arith)

put_first : (o : Option ℕ) → put_before o [] ≡ put_list o
put_first None = refl
put_first (Some v) = refl

put_join : (o : Option ℕ) (xs ys : List ℕ) → put_before o (xs ++ ys) ≡ put_before o xs ++ ys
put_join None xs ys = refl
put_join (Some v) xs ys = refl

pub puts_more : (q : QueueView) (acts : List (Act × ℕ)) (i : ℕ) → i < length acts
    → puts_of q (take (suc i) acts) ≡ puts_of q (take i acts) ++ put_list (given (after_acts q (take i acts)) (act_at acts i).0 (act_at acts i).1).put
puts_more q [] i l = absurd (omega arith)
puts_more q (a ∷ acts) zero l = put_first (given q a.0 a.1).put
puts_more q (a ∷ acts) (suc i) l =
    ap (put_before (given q a.0 a.1).put) (puts_more (acted q a.0 a.1) acts i (omega arith))
    ∙ put_join (given q a.0 a.1).put (puts_of (acted q a.0 a.1) (take i acts)) _

pub join_join : (xs ys zs : List ℕ) → (xs ++ ys) ++ zs ≡ xs ++ (ys ++ zs)
join_join [] ys zs = refl
join_join (x ∷ xs) ys zs = ap (λ r. x ∷ r) (join_join xs ys zs)
