-- Shapes of queues.
use Rattle.std.proofs.Common.{◌≡◌, ◌↔◌, ℕ, ◌+◌, ◌<◌, List, [], ◌∷◌, ◌++◌, length, get_or, take, ap, subst, sym, ◌∙◌, IsTrue, false, Bool, arith}
use Rattle.std.specs.Prelude.{IfOk, Result}
use Rattle.std.specs.List.{All, concat}
use Rattle.std.proofs.lemmas.List.{take_more, append-nil}
use Rattle.std.proofs.lemmas.List.Folds.{concat-append}
use Rattle.std.proofs.lemmas.List.Elements.{All-nil, All-cons, All-head, All-tail, All-append}
use Rattle.std.proofs.lemmas.Result.{IfOk-weaker}
use Rattle.net_types.specs.declared.net.Port.{Port}
use Rattle.net_types.specs.Queues.{IsQueueShape}
use Rattle.net_check.specs.private.Marks.{IsEachOnce}
use Rattle.net_check.specs.private.Groups.{AreGroups}

pub concat-take-more : (xss : List (List ℕ)) (i : ℕ) (x ys zs : List ℕ) → i < length xss → x ≡ get_or xss i x → ys ≡ concat (take i xss) → zs ≡ ys ++ x → zs ≡ concat (take (i + 1) xss)
concat-take-more xss i x ys zs l e a b =
    let t : take (i + 1) xss ≡ take i xss ++ x ∷ [] = take_more xss i x l ∙ ap (λ y. take i xss ++ y ∷ []) (sym e) in
    let u : concat (take (i + 1) xss) ≡ concat (take i xss) ++ x = ap concat t ∙ concat-append (take i xss) (x ∷ []) ∙ ap (λ y. concat (take i xss) ++ y) (append-nil x) in
    b ∙ ap (λ y. y ++ x) a ∙ sym u

pub joined-more : (xss : List (List ℕ)) (i : ℕ) (x w ys zs : List ℕ) → i < length xss → w ≡ get_or xss i w → x ≡ w → ys ≡ concat (take i xss) → zs ≡ ys ++ x → zs ≡ concat (take (i + 1) xss)
joined-more xss i x w ys zs l e f a b = concat-take-more xss i w ys zs l e a (b ∙ ap (λ q. ys ++ q) f)

-- what holds of each number of the joined groups holds of each number of each group
parts : (P : ℕ → Type 0) (gs : List (List ℕ)) → All P (concat gs) → All (All P) gs
parts P [] a = All-nil (All P)
parts P (g ∷ gs) a = All-cons (All P) g gs (left g (concat gs) a) (parts P gs (right g (concat gs) a))
  where
    left : (xs ys : List ℕ) → All P (xs ++ ys) → All P xs
    left [] ys h = All-nil P
    left (x ∷ xs) ys h = All-cons P x xs (All-head P x (xs ++ ys) h) (left xs ys (All-tail P x (xs ++ ys) h))

    right : (xs ys : List ℕ) → All P (xs ++ ys) → All P ys
    right [] ys h = h
    right (x ∷ xs) ys h = right xs ys (All-tail P x (xs ++ ys) h)

whole : (P : ℕ → Type 0) (gs : List (List ℕ)) → All (All P) gs → All P (concat gs)
whole P [] a = All-nil P
whole P (g ∷ gs) a = All-append P g (concat gs) (All-head (All P) g gs a) (whole P gs (All-tail (All P) g gs a))

shape_of : (depth : ℕ) (ports : List Port) (gs : List (List ℕ)) → 0 < length ports → AreGroups depth gs → IsEachOnce (length ports) (concat gs) → IsQueueShape depth ports gs
shape_of depth ports gs some a o = record {
  some_port = some;
  some_group = a.some;
  each_group = λ k d l. (let e = a.each k d l in record { some = e.0; room = e.1; named = parts (λ p. p < length ports) gs o.named k d l });
  each_port = o.each;
  depth_at_most = a.depth_at_most;
}

of_shape : (depth : ℕ) (ports : List Port) (gs : List (List ℕ)) → IsQueueShape depth ports gs → IsEachOnce (length ports) (concat gs)
of_shape depth ports gs s = record {
  named = whole (λ p. p < length ports) gs (λ k d l. (s.each_group k d l).named);
  each = s.each_port;
}

groups_of : (depth : ℕ) (ports : List Port) (gs : List (List ℕ)) → IsQueueShape depth ports gs → AreGroups depth gs
groups_of depth ports gs s = record {
  some = s.some_group;
  each = λ k d l. (let e = s.each_group k d l in (e.some, e.room));
  depth_at_most = s.depth_at_most;
}

pub shape_decided : {E : Type 0} (depth : ℕ) (ports : List Port) (gs : List (List ℕ)) (ns : List ℕ) (r : Result Bool E) → 0 < length ports → AreGroups depth gs → ns ≡ concat gs
    → IfOk r (λ b. IsTrue b ↔ IsEachOnce (length ports) ns) → IfOk r (λ b. IsTrue b ↔ IsQueueShape depth ports gs)
shape_decided depth ports gs ns r some a e h = IfOk-weaker r _ _ (λ b k. by b k) h
  where
    by : (b : Bool) → IsTrue b ↔ IsEachOnce (length ports) ns → IsTrue b ↔ IsQueueShape depth ports gs
    by b k =
        let P : List ℕ → Type 0 = IsEachOnce (length ports) in
        (λ t. shape_of depth ports gs some a (subst P e (k.0 t)), λ s. k.1 (subst P (sym e) (of_shape depth ports gs s)))

pub no_ports : (depth : ℕ) (ports : List Port) (gs : List (List ℕ)) → length ports ≡ 0 → IsQueueShape depth ports gs → IsTrue false
no_ports depth ports gs e s = let l = s.some_port in absurd (omega arith)

pub no_groups : (depth : ℕ) (ports : List Port) (gs : List (List ℕ)) → (AreGroups depth gs → ⊥) → IsQueueShape depth ports gs → IsTrue false
no_groups depth ports gs h s = absurd (h (groups_of depth ports gs s))

pub decided_at : {E : Type 0} (depth : ℕ) (ports qs : List Port) (gs hs : List (List ℕ)) (ns ms : List ℕ) (r : Result Bool E) → qs ≡ ports → hs ≡ gs → (length qs ≡ 0 → ⊥) → AreGroups depth hs → ns ≡ ms → ms ≡ concat hs
    → IfOk r (λ b. IsTrue b ↔ IsEachOnce (length qs) ns) → IfOk r (λ b. IsTrue b ↔ IsQueueShape depth ports gs)
decided_at {E} depth ports qs gs hs ns ms r e f some a g h d =
    let k : IfOk r (λ b. IsTrue b ↔ IsQueueShape depth qs hs) = shape_decided depth qs hs ns r (omega arith) a (g ∙ h) d in
    let P : List Port → Type 0 = λ x. IfOk r (λ b. IsTrue b ↔ IsQueueShape depth x gs) in
    let Q : List (List ℕ) → Type 0 = λ x. IfOk r (λ b. IsTrue b ↔ IsQueueShape depth qs x) in
    subst P e (subst Q f k)
