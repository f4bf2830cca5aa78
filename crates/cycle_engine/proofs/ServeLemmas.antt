-- Turns of queues in a cycle, one after another.
use Rattle.std.proofs.Common.{◌≡◌, ◌≢◌, ℕ, ◌+◌, ◌<◌, ◌≤◌, ◌⊎◌, inl, inr, Bool, true, false, length, get_or, refl, sym, ap, subst, ◌∙◌, arith}
use Rattle.std.proofs.lemmas.Bool.{cases_lt, cases_eq}
use Rattle.net_types.specs.declared.net.Net.{Net}
use Rattle.net_types.specs.declared.firing.Act.{Act}
use Rattle.net_types.specs.declared.firing.Firing.{Firing}
use Rattle.net_types.specs.Nets.{kind_of, firing}
use Rattle.net_types.specs.Order.{act_rank}
use Rattle.net_check.specs.Ends.{is_lsq}
use Rattle.net_core.specs.Fire.{enabled}
use Rattle.net_core.specs.States.{state_of}
use Rattle.cycle_engine.specs.declared.engine.Engine.{Engine}
use Rattle.cycle_engine.specs.declared.engine.Bounds.{Bounds}
use Rattle.cycle_engine.specs.declared.marks.Marks.{Marks}
use Rattle.lsq_core.specs.Laws.{phase}
use Rattle.cycle_engine.specs.Cycles.{Dated, May}
use Rattle.cycle_engine.specs.private.Trials.{dated_of}
use Rattle.cycle_engine.specs.private.Marking.{IsMarked, IsListed, IsReordered, HasNoTurn, HasTurn, Holds, HasUnit}
use Rattle.cycle_engine.specs.private.Goings.{Past, IsNotedUnit, IsGrown, with_marks}
use Rattle.cycle_engine.specs.private.Places.{IsOpen, IsQueueTurn, IsTurnOf, IsTurn, IsSettled, IsServed, IsFull}
use Rattle.cycle_engine.proofs.MarkLemmas.{marked_queue, unmarked, still_marked}
use Rattle.cycle_engine.proofs.PlaceLemmas.{queue_rank, rank_most}
use Rattle.cycle_engine.proofs.QueueTurnLemmas.{allocs_none}
use Rattle.cycle_engine.proofs.NextLemmas.{no_unit}
use Rattle.cycle_engine.proofs.TurnLemmas.{each_order, going_marks}

-- what grew, or did not, and then grew, or did not
pub grown_on : (old mid new : Engine) → IsGrown old mid → IsGrown mid new → IsGrown old new
grown_on old mid new (inl l) (inl k) = inl (omega arith)
grown_on old mid new (inl l) (inr e) = inl (let z = ap length e in omega arith)
grown_on old mid new (inr e) (inl k) = inl (let z = ap length e in omega arith)
grown_on old mid new (inr e) (inr k) = inr (k ∙ e)

pub not_grown : (old new : Engine) → IsGrown old new → (length old.fired.items < length new.fired.items → ⊥) → new.fired.items ≡ old.fired.items
not_grown old new (inl l) n = absurd (n l)
not_grown old new (inr e) n = e

pub served_first : (net : Net) (past : Past) (b : Bounds) (c : ℕ) (start : Dated) (e : Engine) (m : Marks) (count : ℕ) → IsReordered e.marks m → count ≡ length m.queues.items → IsSettled net past b c start e
    → IsServed net past b c start (with_marks e m) count 0
served_first net past b c start e m count r l s = record {
  going = going_marks net past b c start e m s.going;
  allocs = allocs_none net c e.fired.items (dated_of e) s.plain;
  watching = λ g un x. ap (λ (v : _). get_or v.items g.unit false) r.marked ∙ s.watching g un x;
  kept = λ g h x. noted g (s.kept g h x);
  again = λ v l h. absurd (no_unit e.fired.items v (each_order e.fired.items (λ g. (is_lsq (kind_of net g.unit) ≡ false) × (phase g.act ≡ 0)) (λ g. g.unit ≢ v) (λ g p z. (let q : true ≡ false = sym l ∙ (ap (λ x. is_lsq (kind_of net x)) (sym z) ∙ p.0) in cc)) s.plain) h);
  list = ap (λ (v : _). v.items) r.list ∙ s.list;
  fresh = each_order e.fired.items (λ g. (is_lsq (kind_of net g.unit) ≡ false) × (phase g.act ≡ 0)) (λ g. is_lsq (kind_of net g.unit) ≡ true → IsMarked m g.unit → ⊥) (λ g h q. (let z : true ≡ false = sym q ∙ h.0 in cc)) s.plain;
  left = omega arith;
}
  where
    noted : (g : Firing) → IsNotedUnit e g.unit → IsNotedUnit (with_marks e m) g.unit
    noted g (inl x) = inl (ap (λ (v : _). get_or v.items g.unit false) r.marked ∙ x)
    noted g (inr h) = inr h

-- the queue has no turn
pub served_left : (net : Net) (past : Past) (b : Bounds) (c : ℕ) (start : Dated) (e : Engine) (m : Marks) (count n : ℕ) → HasNoTurn e.marks m → n < count → IsServed net past b c start e count n → IsServed net past b c start (with_marks e m) count (n + 1)
served_left net past b c start e m count n t l s = record {
  going = going_marks net past b c start e m s.going;
  allocs = s.allocs;
  watching = λ g un x. ap (λ (v : _). get_or v.items g.unit false) t.marked ∙ s.watching g un x;
  kept = λ g h x. noted g (s.kept g h x);
  again = s.again;
  list = ap (λ (v : _). v.items) t.list ∙ s.list;
  fresh = each_order e.fired.items (λ g. is_lsq (kind_of net g.unit) ≡ true → IsMarked e.marks g.unit → ⊥) (λ g. is_lsq (kind_of net g.unit) ≡ true → IsMarked m g.unit → ⊥)
      (λ g h q x. h q (ap (λ (v : _). get_or v.items g.unit false) (sym t.marked) ∙ x)) s.fresh;
  left = (let a = s.left in let k = t.fewer in omega arith);
}
  where
    noted : (g : Firing) → IsNotedUnit e g.unit → IsNotedUnit (with_marks e m) g.unit
    noted g (inl x) = inl (ap (λ (v : _). get_or v.items g.unit false) t.marked ∙ x)
    noted g (inr h) = inr h

-- its mark was taken, and its turn begins
pub served_turn : (net : Net) (past : Past) (b : Bounds) (c : ℕ) (start : Dated) (e : Engine) (m : Marks) (count n u : ℕ) → HasTurn e.marks m u → IsListed net e.marks → IsServed net past b c start e count n → IsTurn net past b c start m (with_marks e m) u 3 0
served_turn net past b c start e m count n u t listed s = record {
  going = going_marks net past b c start e m s.going;
  watched = λ g un k. at g k (cases_eq g.unit u) (s.watching g un k);
  kept = λ g h x. noted g (cases_eq g.unit u) (s.kept g h x);
  of = (let P : Bool → Type 0 = λ q. IsTurnOf q net c m (with_marks e m) u 3 in subst P (sym l) (record {
    allocs = s.allocs;
    behind = each_order e.fired.items (λ g. is_lsq (kind_of net g.unit) ≡ true → IsMarked e.marks g.unit → ⊥) (λ g. g.unit ≡ u → act_rank g.act ≤ 3)
        (λ g h z. absurd (h (ap (λ x. is_lsq (kind_of net x)) z ∙ l) (subst (IsMarked e.marks) (sym z) t.was))) s.fresh;
    fresh = each_order e.fired.items (λ g. is_lsq (kind_of net g.unit) ≡ true → IsMarked e.marks g.unit → ⊥) (λ g. is_lsq (kind_of net g.unit) ≡ true → (g.unit ≡ u) ⊎ (IsMarked m g.unit → ⊥))
        (λ g h q. inr (λ z. h q (unmarked e.marks m u g.unit t.marked z).1)) s.fresh;
    same = refl;
    again = λ v q h. held v (s.again v q h);
  }));
}
  where
    l : is_lsq (kind_of net u) ≡ true
    l = (marked_queue net e.marks u listed s.list t.was).0

    noted : (g : Firing) → (g.unit ≡ u) ⊎ (g.unit ≢ u) → IsNotedUnit e g.unit → (g.unit ≡ u) ⊎ IsNotedUnit (with_marks e m) g.unit
    noted g (inl x) k = inl x
    noted g (inr x) (inl w) = inr (inl (still_marked e.marks m u g.unit t.marked x w))
    noted g (inr x) (inr h) = inr (inr h)

    held : (v : ℕ) → ⊥ ⊎ Holds v e.again.items → (v ≡ u) ⊎ Holds v e.again.items
    held v (inl x) = absurd x
    held v (inr h) = inr h

    N : Act → ℕ → Type 0
    N a v = enabled net (state_of e.state) (firing v a)

    at : (g : Firing) → May net c start (dated_of e) g → (g.unit ≡ u) ⊎ (g.unit ≢ u) → IsMarked e.marks g.unit → IsMarked m g.unit ⊎ ((g.unit ≡ u) × IsOpen 3 0 g.act)
    at g k (inr x) w = inl (still_marked e.marks m u g.unit t.marked x w)
    at g k (inl x) w =
        let r = queue_rank net (state_of e.state) u g.act l (subst (N g.act) x k.turn) in
        inr (x, by (cases_lt 3 (act_rank g.act)))
      where
        by : (3 < act_rank g.act) ⊎ (act_rank g.act ≤ 3) → IsOpen 3 0 g.act
        by (inl y) = inl y
        by (inr y) = (let r = queue_rank net (state_of e.state) u g.act l (subst (N g.act) x k.turn) in inr (omega arith, omega arith))

-- a marked queue has not fired
pub fresh_queue : (net : Net) (past : Past) (b : Bounds) (c : ℕ) (start : Dated) (e : Engine) (m : Marks) (count n u : ℕ) → HasTurn e.marks m u → IsListed net e.marks → IsServed net past b c start e count n → HasUnit u e.fired.items → ⊥
fresh_queue net past b c start e m count n u t listed s =
    let l = (marked_queue net e.marks u listed s.list t.was).0 in
    no_unit e.fired.items u (each_order e.fired.items (λ g. is_lsq (kind_of net g.unit) ≡ true → IsMarked e.marks g.unit → ⊥) (λ g. g.unit ≢ u)
    (λ g h z. h (ap (λ x. is_lsq (kind_of net x)) z ∙ l) (subst (IsMarked e.marks) (sym z) t.was)) s.fresh)

-- its turn has ended, and where it fired it is to be looked at again
pub turn_served : (net : Net) (past : Past) (b : Bounds) (c : ℕ) (start : Dated) (old e : Engine) (m : Marks) (count n u : ℕ) → HasTurn old.marks m u → IsListed net old.marks → n < count
    → IsServed net past b c start old count n → IsTurn net past b c start m e u 10 0 → (HasUnit u e.fired.items → Holds u e.again.items) → IsServed net past b c start e count (n + 1)
turn_served net past b c start old e m count n u k listed l s t told = record {
  going = t.going;
  allocs = turn.allocs;
  watching = λ g un x. watch g (t.watched g un x);
  kept = λ g h x. noted g h (t.kept g h x);
  again = λ v q h. held v h (turn.again v q h);
  list = ap (λ (x : Marks). x.list.items) turn.same ∙ (ap (λ (v : _). v.items) k.list ∙ s.list);
  fresh = each_order e.fired.items (λ g. is_lsq (kind_of net g.unit) ≡ true → (g.unit ≡ u) ⊎ (IsMarked m g.unit → ⊥)) (λ g. is_lsq (kind_of net g.unit) ≡ true → IsMarked e.marks g.unit → ⊥) (λ g h q x. fresh g (h q) (here g.unit x)) turn.fresh;
  left = (let a = s.left in let f = k.fewer in let x = ap (λ (x : Marks). length x.queues.items) turn.same in omega arith);
}
  where
    turn : IsQueueTurn net c m e u 10
    turn = (let P : Bool → Type 0 = λ q. IsTurnOf q net c m e u 10 in subst P (marked_queue net old.marks u listed s.list k.was).0 t.of)

    here : (v : ℕ) → IsMarked e.marks v → IsMarked m v
    here v k = (let P : Marks → Type 0 = λ y. IsMarked y v in subst P turn.same k)

    held : (v : ℕ) → HasUnit v e.fired.items → (v ≡ u) ⊎ Holds v e.again.items → ⊥ ⊎ Holds v e.again.items
    held v h (inl z) = (let P : ℕ → Type 0 = λ x. HasUnit x e.fired.items → Holds x e.again.items in inr (subst P (sym z) told h))
    held v h (inr x) = inr x

    noted : (g : Firing) → HasUnit g.unit e.fired.items → (g.unit ≡ u) ⊎ IsNotedUnit e g.unit → IsNotedUnit e g.unit
    noted g h (inl z) = (let P : ℕ → Type 0 = λ x. HasUnit x e.fired.items → Holds x e.again.items in inr (subst P (sym z) told h))
    noted g h (inr x) = x

    watch : (g : Firing) → IsMarked e.marks g.unit ⊎ ((g.unit ≡ u) × IsOpen 10 0 g.act) → IsMarked e.marks g.unit
    watch g (inl k) = k
    watch g (inr k) = absurd (by k.1)
      where
        by : IsOpen 10 0 g.act → ⊥
        by (inl o) = let r = rank_most g.act in omega arith
        by (inr o) = let r = rank_most g.act in let y = o.0 in omega arith

    fresh : (g : Firing) → (g.unit ≡ u) ⊎ (IsMarked m g.unit → ⊥) → IsMarked m g.unit → ⊥
    fresh g (inl z) x = (unmarked old.marks m u g.unit k.marked x).0 z
    fresh g (inr f) x = f x

-- all queues had their turns
pub served_full : (net : Net) (past : Past) (b : Bounds) (c : ℕ) (start : Dated) (e : Engine) (count n : ℕ) → count ≤ n → IsListed net e.marks → IsServed net past b c start e count n → IsFull net past b c start e
served_full net past b c start e count n most listed s = record {
  going = s.going;
  full = λ g un m. unmarked_now g (s.watching g un m);
  kept = λ g h x. held g (s.kept g h x);
  again = s.again;
}
  where
    unmarked_now : (g : Firing) → IsMarked e.marks g.unit → ⊥
    unmarked_now g m = let w = (marked_queue net e.marks g.unit listed s.list m).1.within in let l = s.left in omega arith

    held : (g : Firing) → IsNotedUnit e g.unit → Holds g.unit e.again.items
    held g (inl m) = absurd (unmarked_now g m)
    held g (inr h) = h
