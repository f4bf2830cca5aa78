-- What older entries let an entry do, by places that sets of places show.
use Rattle.std.proofs.Common.{◌≡◌, ℕ, suc, zero, ◌+◌, ◌*◌, ◌/◌, ◌<◌, ◌≤◌, ◌⊎◌, ◌&&◌, ◌||◌, not, nat_lt, max, Bool, true, false, cond, Option, Some, None, is_some, is_none, option_map, List, [], ◌∷◌, ◌++◌, length, take, ◌==◌, refl, sym, ap, ◌∙◌, inl, inr, arith}
use Rattle.std.specs.List.{list_all}
use Rattle.std.proofs.lemmas.Bool.{cases_lt, lt-ltb, le-ltb, false≢true, eq-eqb, eqb-true, not-false}
use Rattle.std.proofs.lemmas.List.{take_more}
use Rattle.std.proofs.Math.Seq.{take-length}
use Rattle.lsq_core.specs.declared.entry.Entry.{Entry}
use Rattle.lsq_core.specs.declared.marks.Kind.TheVariants as kind
use Rattle.lsq_core.specs.declared.marks.Marks.{Marks}
use Rattle.lsq_core.specs.Acts.{lets, known, waiting, same, last_such, later, or_zero, ready, source_ok, order_ok, executes}
use Rattle.lsq_core.specs.Acts.{QueueState}
use Rattle.lsq_core.specs.Views.{InOrder, entry_at, blank, count_of, serial_of, oldest_of}
use Rattle.lsq_core.specs.Wants.{IsFirst, NoneBelow, HasNone}
use Rattle.lsq_core.specs.Index.{bucket, row_of, in_row, filled, clear, runs, reached, IsClearBelow, IsNextIn, HasNoMoreIn}
use Rattle.lsq_core.proofs.PlaceLemmas.{all_pass, find_first, none_last}
use Rattle.lsq_core.proofs.EntryLemmas.{and_true, and_inv}
use Rattle.lsq_core.proofs.PairLemmas.{same_eq}

-- a store is let execute where both sides are filled and clear
bools : (older store some done eq : Bool)
    → (not older || ((not store && not true) || (some && (done || not (some && eq)))))
    ≡ ((not older || not ((count_of store == count_of false) && not some)) && ((not older || not ((count_of store == count_of true) && not some))
    && ((not older || not ((count_of store == count_of false) && ((some && not done) && (some && eq)))) && (not older || not ((count_of store == count_of true) && ((some && not done) && (some && eq)))))))
bools false store some done eq = refl
bools true true true true eq = refl
bools true true true false true = refl
bools true true true false false = refl
bools true true false done eq = refl
bools true false true true eq = refl
bools true false true false true = refl
bools true false true false false = refl
bools true false false done eq = refl

lets_parts : (x o : Entry) → x.store ≡ true → lets x o ≡ (filled false x o && (filled true x o && (clear false x o && clear true x o)))
lets_parts x o s = by x.store o.addr s
  where
    by : (b : Bool) (a : Option ℕ) → b ≡ true → (not (nat_lt o.serial x.serial) || ((not o.store && not b) || (is_some a && (o.done || not (same a x.addr)))))
        ≡ ((not (nat_lt o.serial x.serial) || not ((count_of o.store == count_of false) && is_none a)) && ((not (nat_lt o.serial x.serial) || not ((count_of o.store == count_of true) && is_none a))
        && ((not (nat_lt o.serial x.serial) || not ((count_of o.store == count_of false) && ((is_some a && not o.done) && same a x.addr))) && (not (nat_lt o.serial x.serial) || not ((count_of o.store == count_of true) && ((is_some a && not o.done) && same a x.addr))))))
    by false a e = absurd (false≢true e)
    by true None e = bools (nat_lt o.serial x.serial) o.store false o.done false
    by true (Some v) e = bools (nat_lt o.serial x.serial) o.store true o.done (same (Some v) x.addr)

all_and : (p q : Entry → Bool) (items : List Entry) → list_all (λ o. p o && q o) items ≡ (list_all p items && list_all q items)
all_and p q [] = refl
all_and p q (o ∷ os) = by (p o) (q o) (list_all p os) (list_all q os) (all_and p q os)
  where
    by : (a b c d : Bool) → list_all (λ o. p o && q o) os ≡ (c && d) → ((a && b) && list_all (λ o. p o && q o) os) ≡ ((a && c) && (b && d))
    by true true c d e = e
    by true false true d e = refl
    by true false false d e = refl
    by false b c d e = refl

all_same : (p q : Entry → Bool) (items : List Entry) → ((o : Entry) → p o ≡ q o) → list_all p items ≡ list_all q items
all_same p q [] h = refl
all_same p q (o ∷ os) h = rw (h o, all_same p q os h) refl

pub lets_all : (x : Entry) (items : List Entry) → x.store ≡ true
    → list_all (lets x) items ≡ (list_all (filled false x) items && (list_all (filled true x) items && (list_all (clear false x) items && list_all (clear true x) items)))
lets_all x items s =
    all_same (lets x) (λ o. filled false x o && (filled true x o && (clear false x o && clear true x o))) items (λ o. lets_parts x o s)
    ∙ all_and (filled false x) (λ o. filled true x o && (clear false x o && clear true x o)) items
    ∙ ap (λ b. list_all (filled false x) items && b) (all_and (filled true x) (λ o. clear false x o && clear true x o) items ∙ ap (λ b. list_all (filled true x) items && b) (all_and (clear false x) (clear true x) items))

pub known_all : (x : Entry) (items : List Entry) → list_all (known x) items ≡ list_all (filled true x) items
known_all x items = all_same (known x) (filled true x) items (λ o. by (nat_lt o.serial x.serial) o.store o.addr)
  where
    by : (b s : Bool) (a : Option ℕ) → (not b || (not s || is_some a)) ≡ (not b || not ((count_of s == count_of true) && is_none a))
    by false s a = refl
    by true true None = refl
    by true true (Some v) = refl
    by true false a = refl

-- one of two that do not hold
neither : (b c : Bool) → c ≡ false → (not b || not c) ≡ true
neither true c e = rw e refl
neither false c e = refl

not_older : (b c : Bool) → b ≡ false → (not b || not c) ≡ true
not_older b c e = rw e refl

blank_row : (m : Marks) (side : Bool) (r : ℕ) (x o : Entry) → m.kind ≡ kind.Blank → r ≡ count_of side → in_row m.kind m.rows r o ≡ false → filled side x o ≡ true
blank_row m side r x o k re e =
    let f : ((count_of o.store == count_of side) && is_none o.addr) ≡ false = (λ i. in_row (sym k i) m.rows (sym re i) o) ∙ e in
    neither (nat_lt o.serial x.serial) ((count_of o.store == count_of side) && is_none o.addr) f

pub filled_none : (m : Marks) (side : Bool) (r : ℕ) (x : Entry) (ys items : List Entry) → m.kind ≡ kind.Blank → r ≡ count_of side → ys ≡ items
    → HasNoMoreIn m r 0 ys → true ≡ list_all (filled side x) items
filled_none m side r x ys items k re is h = rw (← is) (sym (all_pass (filled side x) ys (λ j l. blank_row m side r x (entry_at ys j) k re (h j (omega arith) l))))

younger_too : (q : QueueState) (ys : List Entry) (at j : ℕ) (x : Entry) → ys ≡ q.items → InOrder q → at < length ys → at ≤ j → j < length q.items
    → x.serial ≤ (entry_at q.items at).serial → nat_lt (entry_at q.items j).serial x.serial ≡ false
younger_too q ys at j x is order w b l le =
    let len = ap length is in
    let a = order at (omega arith) in
    let c = order j l in
    le-ltb (entry_at q.items j).serial x.serial (omega arith)

pub filled_some : (m : Marks) (side : Bool) (r at : ℕ) (x : Entry) (q : QueueState) (ys : List Entry) → m.kind ≡ kind.Blank → r ≡ count_of side → ys ≡ q.items
    → InOrder q → IsNextIn m r 0 at ys → x.serial ≤ (entry_at q.items at).serial → true ≡ list_all (filled side x) q.items
filled_some m side r at x q ys k re is order n le = sym (all_pass (filled side x) q.items (λ j l. by j l (cases_lt j at)))
  where
    by : (j : ℕ) → j < length q.items → (j < at) ⊎ (at ≤ j) → filled side x (entry_at q.items j) ≡ true
    by j l (inl b) = blank_row m side r x (entry_at q.items j) k re (rw (← is) (n.before j (omega arith) b))
    by j l (inr b) =
        not_older (nat_lt (entry_at q.items j).serial x.serial) ((count_of (entry_at q.items j).store == count_of side) && is_none (entry_at q.items j).addr)
        (younger_too q ys at j x is order n.within b l le)

-- what stands in another row of addresses
pending_row : (rows r : ℕ) (side : Bool) (x o : Entry) → r ≡ row_of kind.Pending rows (record x { store = side }) → in_row kind.Pending rows r o ≡ false
    → (count_of o.store == count_of side) ≡ true → same o.addr x.addr ≡ true → (is_some o.addr && not o.done) ≡ false
pending_row rows r side x o re out sides eq =
    let a : o.addr ≡ x.addr = same_eq o.addr x.addr eq in
    let s : count_of o.store ≡ count_of side = eqb-true (count_of o.store) (count_of side) sides in
    let e : row_of kind.Pending rows o ≡ r = (λ i. 2 * bucket (max 1 (rows / 2)) (or_zero (a i)) + s i) ∙ sym re in
    let t : (row_of kind.Pending rows o == r) ≡ true = eq-eqb (row_of kind.Pending rows o) r e in
    ap (λ b. b && (is_some o.addr && not o.done)) (sym t) ∙ out

clear_row : (m : Marks) (r : ℕ) (side : Bool) (x o : Entry) → m.kind ≡ kind.Pending → r ≡ row_of kind.Pending m.rows (record x { store = side }) → in_row m.kind m.rows r o ≡ false → clear side x o ≡ true
clear_row m r side x o k re out =
    neither (nat_lt o.serial x.serial) ((count_of o.store == count_of side) && ((is_some o.addr && not o.done) && same o.addr x.addr))
    (by (count_of o.store == count_of side) (same o.addr x.addr) (is_some o.addr && not o.done) (pending_row m.rows r side x o re ((λ i. in_row (sym k i) m.rows r o) ∙ out)))
  where
    by : (b c d : Bool) → (b ≡ true → c ≡ true → d ≡ false) → (b && (d && c)) ≡ false
    by true true d h = rw (h refl refl) refl
    by true false true h = refl
    by true false false h = refl
    by false c d h = refl

waiting_row : (m : Marks) (r : ℕ) (x o : Entry) → m.kind ≡ kind.Pending → r ≡ row_of kind.Pending m.rows (record x { store = true }) → in_row m.kind m.rows r o ≡ false → waiting x o ≡ false
waiting_row m r x o k re out = by (nat_lt o.serial x.serial) o.store o.addr o.done (pending_row m.rows r true x o re ((λ i. in_row (sym k i) m.rows r o) ∙ out))
  where
    by : (b s : Bool) (a : Option ℕ) (d : Bool) → ((count_of s == count_of true) ≡ true → same a x.addr ≡ true → (is_some a && not d) ≡ false) → (b && (s && (same a x.addr && not d))) ≡ false
    by false s a d h = refl
    by true false a d h = refl
    by true true None d h = refl
    by true true (Some v) true h = at (same (Some v) x.addr)
      where
        at : (c : Bool) → (c && false) ≡ false
        at true = refl
        at false = refl
    by true true (Some v) false h = at (same (Some v) x.addr) (h refl)
      where
        at : (c : Bool) → (c ≡ true → true ≡ false) → (c && true) ≡ false
        at true g = g refl
        at false g = refl

-- the walk along a row of addresses
pub clear_before : (m : Marks) (r at : ℕ) (side : Bool) (x : Entry) (ys items : List Entry) → m.kind ≡ kind.Pending → r ≡ row_of kind.Pending m.rows (record x { store = side }) → ys ≡ items
    → IsNextIn m r 0 at ys → IsClearBelow side x items at
clear_before m r at side x ys items k re is n j l = clear_row m r side x (entry_at items j) k re (rw (← is) (n.before j (omega arith) l))

pub clear_past : (m : Marks) (r at : ℕ) (side : Bool) (x : Entry) (q : QueueState) (ys : List Entry) → m.kind ≡ kind.Pending → r ≡ row_of kind.Pending m.rows (record x { store = side }) → ys ≡ q.items
    → InOrder q → IsNextIn m r 0 at ys → x.serial ≤ (entry_at q.items at).serial → true ≡ list_all (clear side x) q.items
clear_past m r at side x q ys k re is order n le = sym (all_pass (clear side x) q.items (λ j l. by j l (cases_lt j at)))
  where
    by : (j : ℕ) → j < length q.items → (j < at) ⊎ (at ≤ j) → clear side x (entry_at q.items j) ≡ true
    by j l (inl b) = clear_before m r at side x ys q.items k re is n j b
    by j l (inr b) =
        not_older (nat_lt (entry_at q.items j).serial x.serial) ((count_of (entry_at q.items j).store == count_of side) && ((is_some (entry_at q.items j).addr && not (entry_at q.items j).done) && same (entry_at q.items j).addr x.addr))
        (younger_too q ys at j x is order n.within b l le)

pub waits_before : (m : Marks) (r at : ℕ) (x : Entry) (ys items : List Entry) → m.kind ≡ kind.Pending → r ≡ row_of kind.Pending m.rows (record x { store = true }) → ys ≡ items
    → IsNextIn m r 0 at ys → NoneBelow (waiting x) items at
waits_before m r at x ys items k re is n j l = waiting_row m r x (entry_at items j) k re (rw (← is) (n.before j (omega arith) l))

pub waits_past : (m : Marks) (r at : ℕ) (x : Entry) (q : QueueState) (ys : List Entry) → m.kind ≡ kind.Pending → r ≡ row_of kind.Pending m.rows (record x { store = true }) → ys ≡ q.items
    → InOrder q → IsNextIn m r 0 at ys → x.serial ≤ (entry_at q.items at).serial → None ≡ last_such (waiting x) q.items
waits_past m r at x q ys k re is order n le = none_last (waiting x) q.items (λ j f l. by j l (cases_lt j at))
  where
    by : (j : ℕ) → j < length q.items → (j < at) ⊎ (at ≤ j) → waiting x (entry_at q.items j) ≡ false
    by j l (inl b) = waits_before m r at x ys q.items k re is n j b
    by j l (inr b) = let e = younger_too q ys at j x is order n.within b l le in rw e refl

pub waits_none : (m : Marks) (r : ℕ) (x : Entry) (ys items : List Entry) → m.kind ≡ kind.Pending → r ≡ row_of kind.Pending m.rows (record x { store = true }) → ys ≡ items
    → HasNoMoreIn m r 0 ys → None ≡ last_such (waiting x) items
waits_none m r x ys items k re is n = none_last (waiting x) items (λ j f l. waiting_row m r x (entry_at items j) k re (rw (← is) (n j f (rw is l))))

pub clear_more : (m : Marks) (r from at : ℕ) (side : Bool) (x : Entry) (ys items : List Entry) → m.kind ≡ kind.Pending → r ≡ row_of kind.Pending m.rows (record x { store = side }) → ys ≡ items
    → IsClearBelow side x items from → IsNextIn m r from at ys → not (clear side x (entry_at items at)) ≡ false → IsClearBelow side x items (at + 1)
clear_more m r from at side x ys items k re is h n e j l = by (cases_lt j from) (cases_lt j at)
  where
    by : (j < from) ⊎ (from ≤ j) → (j < at) ⊎ (at ≤ j) → clear side x (entry_at items j) ≡ true
    by (inl b) c = h j b
    by (inr b) (inl c) = clear_row m r side x (entry_at items j) k re (rw (← is) (n.before j b c))
    by (inr b) (inr c) = let s : j ≡ at = omega arith in rw s (not-false (clear side x (entry_at items at)) e)

pub clear_all : (m : Marks) (r from : ℕ) (side : Bool) (x : Entry) (ys items : List Entry) → m.kind ≡ kind.Pending → r ≡ row_of kind.Pending m.rows (record x { store = side }) → ys ≡ items
    → IsClearBelow side x items from → HasNoMoreIn m r from ys → true ≡ list_all (clear side x) items
clear_all m r from side x ys items k re is h n = sym (all_pass (clear side x) items (λ j l. by j l (cases_lt j from)))
  where
    by : (j : ℕ) → j < length items → (j < from) ⊎ (from ≤ j) → clear side x (entry_at items j) ≡ true
    by j l (inl b) = h j b
    by j l (inr b) = clear_row m r side x (entry_at items j) k re (rw (← is) (n j b (rw is l)))

-- the last that passes, of more and more entries
last_push : (t : Entry → Bool) (xs : List Entry) (y : Entry) → last_such t (xs ++ y ∷ []) ≡ cond (t y) (Some y) (last_such t xs)
last_push t [] y = by (t y)
  where
    by : (b : Bool) → later None b y ≡ cond b (Some y) None
    by true = refl
    by false = refl
last_push t (x ∷ xs) y = ap (λ o. later o (t x) x) (last_push t xs y) ∙ by (t y)
  where
    by : (b : Bool) → later (cond b (Some y) (last_such t xs)) (t x) x ≡ cond b (Some y) (later (last_such t xs) (t x) x)
    by true = refl
    by false = refl

last_take : (t : Entry → Bool) (xs : List Entry) (i j : ℕ) → i ≤ j → ((k : ℕ) → i ≤ k → k < j → k < length xs → t (entry_at xs k) ≡ false) → last_such t (take j xs) ≡ last_such t (take i xs)
last_take t [] zero zero l h = refl
last_take t [] zero (suc j) l h = refl
last_take t [] (suc i) zero l h = refl
last_take t [] (suc i) (suc j) l h = refl
last_take t (x ∷ xs) zero zero l h = refl
last_take t (x ∷ xs) zero (suc j) l h =
    let e : last_such t (take j xs) ≡ None = last_take t xs zero j (omega arith) (λ k a b c. h (suc k) (omega arith) (omega arith) (omega arith)) in
    let f : t x ≡ false = h 0 (omega arith) (omega arith) (omega arith) in
    rw (e, f) refl
last_take t (x ∷ xs) (suc i) zero l h = absurd (omega arith)
last_take t (x ∷ xs) (suc i) (suc j) l h = ap (λ o. later o (t x) x) (last_take t xs i j (omega arith) (λ k a b c. h (suc k) (omega arith) (omega arith) (omega arith)))

pub source_none : (x : Entry) (items : List Entry) (n : ℕ) → NoneBelow (waiting x) items n → None ≡ last_such (waiting x) (take n items)
source_none x items n h = sym (last_take (waiting x) items 0 n (omega arith) (λ k a b c. h k b) ∙ ap (last_such (waiting x)) (take_none items))
  where
    take_none : (xs : List Entry) → take 0 xs ≡ []
    take_none [] = refl
    take_none (y ∷ ys) = refl

pub source_more : (m : Marks) (r from at : ℕ) (x : Entry) (f g : Option Entry) (ys items : List Entry) → m.kind ≡ kind.Pending → r ≡ row_of kind.Pending m.rows (record x { store = true }) → ys ≡ items
    → f ≡ last_such (waiting x) (take from items) → IsNextIn m r from at ys → g ≡ cond (waiting x (entry_at items at)) (Some (entry_at items at)) f → g ≡ last_such (waiting x) (take (at + 1) items)
source_more m r from at x f g ys items k re is h n made =
    let w : at < length items = rw (← is) n.within in
    let e : last_such (waiting x) (take at items) ≡ last_such (waiting x) (take from items) =
    last_take (waiting x) items from at n.from_on (λ j a b c. waiting_row m r x (entry_at items j) k re (rw (← is) (n.before j a b))) in
    made ∙ ap (λ o. cond (waiting x (entry_at items at)) (Some (entry_at items at)) o) (h ∙ sym e) ∙ sym (last_push (waiting x) (take at items) (entry_at items at)) ∙ ap (last_such (waiting x)) (sym (take_more items at blank w))

pub source_all : (m : Marks) (r from : ℕ) (x : Entry) (f : Option Entry) (ys items : List Entry) → m.kind ≡ kind.Pending → r ≡ row_of kind.Pending m.rows (record x { store = true }) → ys ≡ items
    → f ≡ last_such (waiting x) (take from items) → from ≤ length items → HasNoMoreIn m r from ys → f ≡ last_such (waiting x) items
source_all m r from x f ys items k re is h l n =
    h ∙ sym (last_take (waiting x) items from (length items) l (λ j a b c. waiting_row m r x (entry_at items j) k re (rw (← is) (n j a (rw is c))))) ∙ ap (last_such (waiting x)) (take-length items)

-- one place more, where b tells whether the entry there is such a store
pub younger_entry : (load : Entry) (items : List Entry) (at : ℕ) (x : Entry) (b : Bool) (f g : Option ℕ) → x ≡ entry_at items at → b ≡ waiting load x → g ≡ cond b (Some at) f
    → option_map (entry_at items) g ≡ cond (waiting load (entry_at items at)) (Some (entry_at items at)) (option_map (entry_at items) f)
younger_entry load items at x b f g is told made = ap (option_map (entry_at items)) made ∙ by b ∙ ap (λ c. cond c (Some (entry_at items at)) (option_map (entry_at items) f)) (told ∙ ap (waiting load) is)
  where
    by : (b : Bool) → option_map (entry_at items) (cond b (Some at) f) ≡ cond b (Some (entry_at items at)) (option_map (entry_at items) f)
    by true = refl
    by false = refl

pub younger_within : (b : Bool) (n at : ℕ) (f g : Option ℕ) → g ≡ cond b (Some at) f → at < n → ((k : ℕ) → f ≡ Some k → k < n) → (k : ℕ) → g ≡ Some k → k < n
younger_within true n at f g made l h k is = let e : at ≡ k = ap (or_else at) (sym made ∙ is) in omega arith
  where
    or_else : ℕ → Option ℕ → ℕ
    or_else d None = d
    or_else d (Some j) = j
younger_within false n at f g made l h k is = h k (sym made ∙ is)

-- entries that are ready, and reached by the addresses before them

both_out : (a b c : Bool) → (a && b) ≡ false → (a && (b && c)) ≡ false
both_out true true c e = absurd (false≢true (sym e))
both_out true false c e = refl
both_out false b c e = refl

ready_row : (m : Marks) (side fw : Bool) (r : ℕ) (items : List Entry) (o : Entry) → m.kind ≡ kind.Ready → r ≡ count_of side → in_row m.kind m.rows r o ≡ false → runs side fw items o ≡ false
ready_row m side fw r items o k re e =
    let f : ((count_of o.store == count_of side) && ready o) ≡ false = (λ i. in_row (sym k i) m.rows (sym re i) o) ∙ e in
    both_out (count_of o.store == count_of side) (ready o) (order_ok fw items o) f

pub runs_more : (m : Marks) (side fw : Bool) (r from at : ℕ) (x : Entry) (b : Bool) (ys items : List Entry) → m.kind ≡ kind.Ready → r ≡ count_of side → ys ≡ items
    → NoneBelow (runs side fw items) items from → IsNextIn m r from at ys → x ≡ entry_at items at → b ≡ executes fw items x → b ≡ false → NoneBelow (runs side fw items) items (at + 1)
runs_more m side fw r from at x b ys items k re is h n xe be e j l = by (cases_lt j from) (cases_lt j at)
  where
    out : (c d : Bool) → d ≡ false → (c && d) ≡ false
    out true d f = f
    out false d f = refl

    by : (j < from) ⊎ (from ≤ j) → (j < at) ⊎ (at ≤ j) → runs side fw items (entry_at items j) ≡ false
    by (inl b) c = h j b
    by (inr b) (inl c) = ready_row m side fw r items (entry_at items j) k re (rw (← is) (n.before j b c))
    by (inr b) (inr c) =
        let s : j ≡ at = omega arith in
        let f : executes fw items (entry_at items at) ≡ false = ap (executes fw items) (sym xe) ∙ sym be ∙ e in
        rw s (out (count_of (entry_at items at).store == count_of side) (executes fw items (entry_at items at)) f)

pub runs_before : (m : Marks) (side fw : Bool) (r at : ℕ) (ys items : List Entry) → m.kind ≡ kind.Ready → r ≡ count_of side → ys ≡ items
    → IsNextIn m r 0 at ys → NoneBelow (runs side fw items) items at
runs_before m side fw r at ys items k re is n j l = ready_row m side fw r items (entry_at items j) k re (rw (← is) (n.before j (omega arith) l))

pub runs_found : (m : Marks) (side fw : Bool) (r from at : ℕ) (x : Entry) (b : Bool) (ys items : List Entry) → m.kind ≡ kind.Ready → r ≡ count_of side → ys ≡ items
    → NoneBelow (runs side fw items) items from → IsNextIn m r from at ys → x ≡ entry_at items at → b ≡ executes fw items x → b ≡ true → IsFirst (runs side fw items) items at
runs_found m side fw r from at x b ys items k re is h n xe be e = record {
  within = rw (← is) n.within;
  here = (let f : executes fw items (entry_at items at) ≡ true = ap (executes fw items) (sym xe) ∙ sym be ∙ e in
      let g : ((count_of (entry_at items at).store == count_of side) && ready (entry_at items at)) ≡ true = (λ i. in_row (sym k i) m.rows (sym re i) (entry_at (sym is i) at)) ∙ n.here in
      and_true (count_of (entry_at items at).store == count_of side) (executes fw items (entry_at items at)) (and_inv (count_of (entry_at items at).store == count_of side) (ready (entry_at items at)) g).0 f);
  before = λ j l. by j l (cases_lt j from);
}
  where
    by : (j : ℕ) → j < at → (j < from) ⊎ (from ≤ j) → runs side fw items (entry_at items j) ≡ false
    by j l (inl b) = h j b
    by j l (inr b) = ready_row m side fw r items (entry_at items j) k re (rw (← is) (n.before j b l))

pub runs_none : (m : Marks) (side fw : Bool) (r from : ℕ) (ys items : List Entry) → m.kind ≡ kind.Ready → r ≡ count_of side → ys ≡ items
    → NoneBelow (runs side fw items) items from → HasNoMoreIn m r from ys → HasNone (runs side fw items) items
runs_none m side fw r from ys items k re is h n j l = by (cases_lt j from)
  where
    by : (j < from) ⊎ (from ≤ j) → runs side fw items (entry_at items j) ≡ false
    by (inl b) = h j b
    by (inr b) = ready_row m side fw r items (entry_at items j) k re (rw (← is) (n j b (rw is l)))

-- what stops an entry stops those after it
pub unfilled : (s : Bool) (x y : Entry) (items : List Entry) → x.serial ≤ y.serial → list_all (filled s x) items ≡ false → list_all (filled s y) items ≡ false
unfilled s x y [] l e = absurd (false≢true (sym e))
unfilled s x y (o ∷ os) l e = by (cases_lt o.serial x.serial) ((count_of o.store == count_of s) && is_none o.addr) (list_all (filled s x) os) (unfilled s x y os l) e
  where
    by : (o.serial < x.serial) ⊎ (x.serial ≤ o.serial) → (c d : Bool) → (d ≡ false → list_all (filled s y) os ≡ false) → ((not (nat_lt o.serial x.serial) || not c) && d) ≡ false → ((not (nat_lt o.serial y.serial) || not c) && list_all (filled s y) os) ≡ false
    by (inl b) true d h q = let f : nat_lt o.serial y.serial ≡ true = lt-ltb o.serial y.serial (omega arith) in rw f refl
    by (inl b) false d h q = let g : d ≡ false = at (not (nat_lt o.serial x.serial)) d q in rest (not (nat_lt o.serial y.serial)) (h g)
      where
        at : (a d : Bool) → ((a || true) && d) ≡ false → d ≡ false
        at true d q = q
        at false d q = q

        rest : (a : Bool) → list_all (filled s y) os ≡ false → ((a || true) && list_all (filled s y) os) ≡ false
        rest true q = q
        rest false q = q
    by (inr b) c d h q =
        let f : nat_lt o.serial x.serial ≡ false = le-ltb o.serial x.serial b in
        let g : d ≡ false = sym (ap (λ v. (not v || not c) && d) f) ∙ q in
        tail (not (nat_lt o.serial y.serial) || not c) (h g)
      where
        tail : (a : Bool) → list_all (filled s y) os ≡ false → (a && list_all (filled s y) os) ≡ false
        tail true q = q
        tail false q = refl

stopped : (side fw : Bool) (items : List Entry) (y : Entry) → reached side items y ≡ false → runs side fw items y ≡ false
stopped side fw items y e = by side y.store refl e
  where
    out : (c d : Bool) → d ≡ false → (c && d) ≡ false
    out true d f = f
    out false d f = refl

    loads : y.store ≡ false → list_all (filled true y) items ≡ false → executes fw items y ≡ false
    loads s f =
        out (ready y) (order_ok fw items y)
        (ap (λ b. cond b (list_all (lets y) items) (list_all (known y) items && source_ok fw (last_such (waiting y) items))) s ∙ ap (λ b. b && source_ok fw (last_such (waiting y) items)) (known_all y items ∙ f))

    stores : y.store ≡ true → (list_all (filled false y) items && list_all (filled true y) items) ≡ false → executes fw items y ≡ false
    stores s f =
        let k : list_all (lets y) items ≡ false = lets_all y items s ∙ at (list_all (filled false y) items) (list_all (filled true y) items) (list_all (clear false y) items && list_all (clear true y) items) f in
        out (ready y) (order_ok fw items y) (ap (λ b. cond b (list_all (lets y) items) (list_all (known y) items && source_ok fw (last_such (waiting y) items))) s ∙ k)
      where
        at : (a b c : Bool) → (a && b) ≡ false → (a && (b && c)) ≡ false
        at = both_out

    by : (d t : Bool) → y.store ≡ t → ((not d || list_all (filled false y) items) && list_all (filled true y) items) ≡ false → runs d fw items y ≡ false
    by false false s f = out (count_of y.store == count_of false) (executes fw items y) (loads s f)
    by false true s f = ap (λ b. (count_of b == count_of false) && executes fw items y) s
    by true false s f = ap (λ b. (count_of b == count_of true) && executes fw items y) s
    by true true s f = out (count_of y.store == count_of true) (executes fw items y) (stores s f)

-- an entry that is not reached has none after it that is
reached_later : (side : Bool) (items : List Entry) (x y : Entry) → x.serial ≤ y.serial → reached side items x ≡ false → reached side items y ≡ false
reached_later side items x y l e = by side (list_all (filled false x) items) (list_all (filled true x) items) (unfilled false x y items l) (unfilled true x y items l) e
  where
    by : (d a b : Bool) → (a ≡ false → list_all (filled false y) items ≡ false) → (b ≡ false → list_all (filled true y) items ≡ false) → ((not d || a) && b) ≡ false
        → ((not d || list_all (filled false y) items) && list_all (filled true y) items) ≡ false
    by false a b f g e = g e
    by true true b f g e = let h = g e in out (list_all (filled false y) items) (list_all (filled true y) items) h
      where
        out : (c d : Bool) → d ≡ false → (c && d) ≡ false
        out true d f = f
        out false d f = refl
    by true false b f g e = rw (f refl) refl

pub runs_stopped : (m : Marks) (side fw : Bool) (r from at : ℕ) (x : Entry) (b : Bool) (q : QueueState) (ys : List Entry) → m.kind ≡ kind.Ready → r ≡ count_of side → ys ≡ q.items → InOrder q
    → NoneBelow (runs side fw q.items) q.items from → IsNextIn m r from at ys → x ≡ entry_at q.items at → b ≡ reached side q.items x → b ≡ false → HasNone (runs side fw q.items) q.items
runs_stopped m side fw r from at x b q ys k re is order h n xe be e j l = by (cases_lt j from) (cases_lt j at)
  where
    by : (j < from) ⊎ (from ≤ j) → (j < at) ⊎ (at ≤ j) → runs side fw q.items (entry_at q.items j) ≡ false
    by (inl b) c = h j b
    by (inr b) (inl c) = ready_row m side fw r q.items (entry_at q.items j) k re (rw (← is) (n.before j b c))
    by (inr b) (inr c) =
        let w = n.within in
        let len = ap length is in
        let a = order at (omega arith) in
        let d = order j l in
        let past : (entry_at q.items at).serial ≤ (entry_at q.items j).serial = omega arith in
        let f : reached side q.items (entry_at q.items at) ≡ false = ap (reached side q.items) (sym xe) ∙ sym be ∙ e in
        stopped side fw q.items (entry_at q.items j) (reached_later side q.items (entry_at q.items at) (entry_at q.items j) past f)

pub serial_found : (fw : Bool) (n : ℕ) (items : List Entry) (at s : ℕ) → IsFirst (executes fw items) items at → s ≡ (entry_at items at).serial → Some s ≡ oldest_of (record { forward = fw; next = n; items = items })
serial_found fw n items at s f e = ap Some e ∙ sym (ap (option_map serial_of) (find_first (executes fw items) items at f))
