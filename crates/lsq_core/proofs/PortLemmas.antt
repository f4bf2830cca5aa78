-- The least port at which an act is allowed, found by the entries or by the ports.
use Rattle.std.proofs.Common.{◌≡◌, ℕ, suc, zero, ◌+◌, ◌<◌, ◌≤◌, ◌⊎◌, ◌&&◌, nat_le, min, eqb, not, Bool, true, false, cond, Option, Some, None, is_some, is_none, MatchOption, List, [], ◌∷◌, length, refl, sym, ap, ◌∙◌, inl, inr, arith}
use Rattle.std.proofs.lemmas.Bool.{cases_lt, le-leb, lt-leb, eqb-true, false≢true}
use Rattle.std.specs.List.{find}
use Rattle.lsq_core.specs.declared.entry.Entry.{Entry}
use Rattle.lsq_core.specs.declared.entry.PortAct.{PortAct}
use Rattle.lsq_core.specs.declared.entry.PortAct.TheVariants as port
use Rattle.lsq_core.specs.Acts.{is_done, wants_addr, wants_data, wants_reply}
use Rattle.lsq_core.specs.Views.{InPorts, entry_at}
use Rattle.lsq_core.specs.Wants.{asks, allows_at, nearer, IsFirst, HasNone, HasNoPort, IsNextPort}
use Rattle.lsq_core.proofs.EntryLemmas.{and_inv, and_true}
use Rattle.lsq_core.proofs.PlaceLemmas.{find_first, find_none}

pub either : (b : Bool) → (b ≡ true) ⊎ (b ≡ false)
either true = inl refl
either false = inr refl

abbrev port_at : List Entry → ℕ → ℕ
port_at items k = (entry_at items k).port

-- the act asks for the entry of a number, and is allowed at its port
abbrev serves : PortAct → List Entry → ℕ → Bool
serves act items k = asks act (port_at items k) (entry_at items k) && allows_at act items (port_at items k)

-- what the first n entries say: a port was found, the least of theirs, or none
pub record SeenSome (act : PortAct) (items : List Entry) (from n p : ℕ) : Type 0 where
  pub from_on : from ≤ p
  pub here : allows_at act items p ≡ true
  pub least : (k : ℕ) → k < n → serves act items k ≡ true → from ≤ port_at items k → p ≤ port_at items k

abbrev pub SeenNone : PortAct → List Entry → ℕ → ℕ → Type 0
SeenNone act items from n = (k : ℕ) → k < n → serves act items k ≡ true → from ≤ port_at items k → ⊥

abbrev pub Seen : PortAct → List Entry → ℕ → ℕ → Option ℕ → Type 0
Seen act items from n None = SeenNone act items from n
Seen act items from n (Some p) = SeenSome act items from n p

before_or_last : (k n : ℕ) → k < n + 1 → (k < n) ⊎ (k ≡ n)
before_or_last k n l = by (cases_lt k n)
  where
    by : (k < n) ⊎ (n ≤ k) → (k < n) ⊎ (k ≡ n)
    by (inl a) = inl a
    by (inr a) = inr (omega arith)

seen_at : (act : PortAct) (items : List Entry) (from at : ℕ) (found : Option ℕ) → Seen act items from at found
    → (port_at items at < from) ⊎ (from ≤ port_at items at) → (serves act items at ≡ true) ⊎ (serves act items at ≡ false)
    → Seen act items from (at + 1) (nearer (serves act items at) found from (port_at items at))
seen_at act items from at None s (inl l) r =
    let e : nat_le from (port_at items at) ≡ false = lt-leb from (port_at items at) l in
    rw e (λ k kl st f. by k st f (before_or_last k at kl))
  where
    by : (k : ℕ) → serves act items k ≡ true → from ≤ port_at items k → (k < at) ⊎ (k ≡ at) → ⊥
    by k st f (inl a) = s k a st f
    by k st f (inr a) = let e = ap (port_at items) a in absurd (omega arith)
seen_at act items from at None s (inr l) (inl r) =
    let e : nat_le from (port_at items at) ≡ true = le-leb from (port_at items at) l in
    rw (e, r) (record { from_on = l; here = (and_inv (asks act (port_at items at) (entry_at items at)) (allows_at act items (port_at items at)) r).1; least = λ k kl st f. by k st f (before_or_last k at kl) })
  where
    by : (k : ℕ) → serves act items k ≡ true → from ≤ port_at items k → (k < at) ⊎ (k ≡ at) → port_at items at ≤ port_at items k
    by k st f (inl a) = absurd (s k a st f)
    by k st f (inr a) = let e = ap (port_at items) a in omega arith
seen_at act items from at None s (inr l) (inr r) =
    let e : nat_le from (port_at items at) ≡ true = le-leb from (port_at items at) l in
    rw (e, r) (λ k kl st f. by k st f (before_or_last k at kl))
  where
    by : (k : ℕ) → serves act items k ≡ true → from ≤ port_at items k → (k < at) ⊎ (k ≡ at) → ⊥
    by k st f (inl a) = s k a st f
    by k st f (inr a) = false≢true (sym r ∙ sym (ap (serves act items) a) ∙ st)
seen_at act items from at (Some p) s (inl l) r =
    let e : nat_le from (port_at items at) ≡ false = lt-leb from (port_at items at) l in
    rw e (record { from_on = s.from_on; here = s.here; least = λ k kl st f. by k st f (before_or_last k at kl) })
  where
    by : (k : ℕ) → serves act items k ≡ true → from ≤ port_at items k → (k < at) ⊎ (k ≡ at) → p ≤ port_at items k
    by k st f (inl a) = s.least k a st f
    by k st f (inr a) = let e = ap (port_at items) a in absurd (omega arith)
seen_at act items from at (Some p) s (inr l) (inl r) =
    let e : nat_le from (port_at items at) ≡ true = le-leb from (port_at items at) l in
    rw (e, r) (record { from_on = (let f = s.from_on in omega arith); here = here (cases_lt p (port_at items at)); least = λ k kl st f. by k st f (before_or_last k at kl) })
  where
    here : (p < port_at items at) ⊎ (port_at items at ≤ p) → allows_at act items (min p (port_at items at)) ≡ true
    here (inl a) = let e : min p (port_at items at) ≡ p = omega arith in ap (allows_at act items) e ∙ s.here
    here (inr a) =
        let e : min p (port_at items at) ≡ port_at items at = omega arith in
        ap (allows_at act items) e ∙ (and_inv (asks act (port_at items at) (entry_at items at)) (allows_at act items (port_at items at)) r).1

    by : (k : ℕ) → serves act items k ≡ true → from ≤ port_at items k → (k < at) ⊎ (k ≡ at) → min p (port_at items at) ≤ port_at items k
    by k st f (inl a) = let q = s.least k a st f in omega arith
    by k st f (inr a) = let e = ap (port_at items) a in omega arith
seen_at act items from at (Some p) s (inr l) (inr r) =
    let e : nat_le from (port_at items at) ≡ true = le-leb from (port_at items at) l in
    rw (e, r) (record { from_on = s.from_on; here = s.here; least = λ k kl st f. by k st f (before_or_last k at kl) })
  where
    by : (k : ℕ) → serves act items k ≡ true → from ≤ port_at items k → (k < at) ⊎ (k ≡ at) → p ≤ port_at items k
    by k st f (inl a) = s.least k a st f
    by k st f (inr a) = absurd (false≢true (sym r ∙ sym (ap (serves act items) a) ∙ st))

-- one entry more
pub seen_more : (act : PortAct) (items : List Entry) (from at : ℕ) (x : Entry) (found result : Option ℕ) → x ≡ entry_at items at
    → result ≡ nearer (asks act x.port x && allows_at act items x.port) found from x.port → Seen act items from at found → Seen act items from (at + 1) result
seen_more act items from at x found result is made s =
    let e : result ≡ nearer (serves act items at) found from (port_at items at) = made ∙ ap (λ (y : Entry). nearer (asks act y.port y && allows_at act items y.port) found from y.port) is in
    rw e (seen_at act items from at found s (cases_lt (port_at items at) from) (either (serves act items at)))

-- ---- what is allowed at a port is allowed by an entry

-- a place is found where an entry passes the test
pub some_such : (t : Entry → Bool) (items : List Entry) (o : Option ℕ) → MatchOption o (HasNone t items) (λ at. IsFirst t items at) → is_some o ≡ is_some (find t items)
some_such t items None none = ap is_some (sym (find_none t items none))
some_such t items (Some at) first = ap is_some (sym (find_first t items at first))

-- an entry of these passes a test
pub record HasSuch (test : Entry → Bool) (items : List Entry) : Type 0 where
  pub at : ℕ
  pub within : at < length items
  pub here : test (entry_at items at) ≡ true

pub some_found : (t : Entry → Bool) (items : List Entry) (at : ℕ) → at < length items → t (entry_at items at) ≡ true → is_some (find t items) ≡ true
some_found t [] at l h = absurd (omega arith)
some_found t (x ∷ xs) zero l h = rw h refl
some_found t (x ∷ xs) (suc at) l h = by (t x) (some_found t xs at (omega arith) h)
  where
    by : (b : Bool) → is_some (find t xs) ≡ true → is_some (cond b (Some x) (find t xs)) ≡ true
    by true q = refl
    by false q = q

pub found_such : (t : Entry → Bool) (items : List Entry) → is_some (find t items) ≡ true → HasSuch t items
found_such t [] h = absurd (false≢true h)
found_such t (x ∷ xs) h = by (either (t x)) (found_such t xs)
  where
    by : (t x ≡ true) ⊎ (t x ≡ false) → (is_some (find t xs) ≡ true → HasSuch t xs) → HasSuch t (x ∷ xs)
    by (inl w) below = record { at = 0; within = omega arith; here = w }
    by (inr w) below =
        let e : find t (x ∷ xs) ≡ find t xs = rw w refl in
        let a = below (sym (ap is_some e) ∙ h) in
        record { at = suc a.at; within = (let l = a.within in omega arith); here = a.here }

pub done_some : (o : Option Entry) → is_done o ≡ true → is_some o ≡ true
done_some None h = absurd (false≢true h)
done_some (Some x) h = refl

pub asked_by : (act : PortAct) (items : List Entry) (p : ℕ) → allows_at act items p ≡ true → HasSuch (asks act p) items
asked_by port.Addr items p h = found_such (wants_addr p) items h
asked_by port.Data items p h = found_such (wants_data p) items h
asked_by port.Reply items p h = found_such (wants_reply p) items (done_some (find (wants_reply p) items) h)

asked_port : (act : PortAct) (p : ℕ) (x : Entry) → asks act p x ≡ true → x.port ≡ p
asked_port port.Addr p x h = eqb-true x.port p (and_inv (eqb x.port p) (is_none x.addr) h).0
asked_port port.Data p x h = eqb-true x.port p (and_inv (eqb x.port p) (x.store && is_none x.datum) h).0
asked_port port.Reply p x h = eqb-true x.port p (and_inv (eqb x.port p) (not x.store && not x.replied) h).0

-- a port at which the act is allowed is that of an entry
pub record HasPort (act : PortAct) (items : List Entry) (p : ℕ) : Type 0 where
  pub at : ℕ
  pub within : at < length items
  pub port : port_at items at ≡ p
  pub serves : serves act items at ≡ true

port_of : (act : PortAct) (items : List Entry) (p : ℕ) → allows_at act items p ≡ true → HasPort act items p
port_of act items p h =
    let a = asked_by act items p h in
    let e = asked_port act p (entry_at items a.at) a.here in
    record {
      at = a.at;
      within = a.within;
      port = e;
      serves = and_true (asks act (port_at items a.at) (entry_at items a.at)) (allows_at act items (port_at items a.at)) (ap (λ q. asks act q (entry_at items a.at)) e ∙ a.here) (ap (allows_at act items) e ∙ h);
    }

-- all entries were seen
pub seen_all : (act : PortAct) (items : List Entry) (from n : ℕ) (found : Option ℕ) → length items ≤ n → Seen act items from n found → MatchOption found (HasNoPort (allows_at act items) from) (IsNextPort (allows_at act items) from)
seen_all act items from n None all s = λ q f. refused q f (either (allows_at act items q))
  where
    refused : (q : ℕ) → from ≤ q → (allows_at act items q ≡ true) ⊎ (allows_at act items q ≡ false) → allows_at act items q ≡ false
    refused q f (inr r) = r
    refused q f (inl r) = let a = port_of act items q r in let p = a.port in let w = a.within in absurd (s a.at (omega arith) a.serves (omega arith))
seen_all act items from n (Some p) all s = record { from_on = s.from_on; here = s.here; before = λ q f l. refused q f l (either (allows_at act items q)) }
  where
    refused : (q : ℕ) → from ≤ q → q < p → (allows_at act items q ≡ true) ⊎ (allows_at act items q ≡ false) → allows_at act items q ≡ false
    refused q f l (inr r) = r
    refused q f l (inl r) = let a = port_of act items q r in let e = a.port in let w = a.within in let least = s.least a.at (omega arith) a.serves (omega arith) in absurd (omega arith)

-- ---- by the ports

-- at no port from a number on and below another is the act allowed
abbrev pub NonePast : PortAct → List Entry → ℕ → ℕ → Type 0
NonePast act items from to = (p : ℕ) → from ≤ p → p < to → allows_at act items p ≡ false

pub port_past : (act : PortAct) (items : List Entry) (from at : ℕ) (b : Bool) → NonePast act items from at → b ≡ allows_at act items at → b ≡ false → NonePast act items from (at + 1)
port_past act items from at b none told fails p f l = by (before_or_last p at l)
  where
    by : (p < at) ⊎ (p ≡ at) → allows_at act items p ≡ false
    by (inl a) = none p f a
    by (inr a) = ap (allows_at act items) a ∙ sym told ∙ fails

pub ports_past : (act : PortAct) (items : List Entry) (from to n : ℕ) → InPorts n items → n ≤ to → NonePast act items from to → HasNoPort (allows_at act items) from
ports_past act items from to n within l none p f = by (cases_lt p to) (either (allows_at act items p))
  where
    by : (p < to) ⊎ (to ≤ p) → (allows_at act items p ≡ true) ⊎ (allows_at act items p ≡ false) → allows_at act items p ≡ false
    by (inl a) e = none p f a
    by (inr a) (inr e) = e
    by (inr a) (inl e) = let h = port_of act items p e in let q = h.port in let w = within h.at h.within in absurd (omega arith)
