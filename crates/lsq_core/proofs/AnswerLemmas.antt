-- The least port at which a reply is allowed, found by the entries that are executed and have not replied.
use Rattle.std.proofs.Common.{◌≡◌, ℕ, suc, ◌+◌, ◌<◌, ◌≤◌, ◌⊎◌, ◌&&◌, ◌==◌, not, Bool, true, false, List, [], ◌∷◌, length, refl, sym, ap, subst, ◌∙◌, inl, inr, arith}
use Rattle.std.proofs.lemmas.Bool.{cases_lt, false≢true}
use Rattle.std.specs.List.{find}
use Rattle.lsq_core.specs.declared.entry.Entry.{Entry}
use Rattle.lsq_core.specs.declared.entry.PortAct.TheVariants as port
use Rattle.lsq_core.specs.declared.marks.Kind.TheVariants as kind
use Rattle.lsq_core.specs.declared.marks.Marks.{Marks}
use Rattle.lsq_core.specs.Acts.{is_done, wants_reply}
use Rattle.lsq_core.specs.Views.{InPorts, entry_at}
use Rattle.lsq_core.specs.Wants.{allows_at, HasNoPort, IsNextPort}
use Rattle.lsq_core.specs.Index.{in_row, HasNoMoreIn, IsNextRow, HasNoRow}
use Rattle.lsq_core.proofs.EntryLemmas.{and_inv, and_true}
use Rattle.lsq_core.proofs.PortLemmas.{HasSuch, NonePast, either, ports_past}

-- where the first entry that passes a test is executed, an executed entry passes it
done_such : (t : Entry → Bool) (items : List Entry) → is_done (find t items) ≡ true → HasSuch (λ x. x.done && t x) items
done_such t [] h = absurd (false≢true h)
done_such t (x ∷ xs) h = by (either (t x)) (done_such t xs)
  where
    by : (t x ≡ true) ⊎ (t x ≡ false) → (is_done (find t xs) ≡ true → HasSuch (λ y. y.done && t y) xs) → HasSuch (λ y. y.done && t y) (x ∷ xs)
    by (inl w) below =
        let e : is_done (find t (x ∷ xs)) ≡ x.done = rw w refl in
        record { at = 0; within = omega arith; here = and_true x.done (t x) (sym e ∙ h) w }
    by (inr w) below =
        let e : find t (x ∷ xs) ≡ find t xs = rw w refl in
        let a = below (sym (ap is_done e) ∙ h) in
        record { at = suc a.at; within = (let l = a.within in omega arith); here = a.here }

-- a row without an executed entry that has not replied is that of a port at which no reply is allowed
unanswered : (m : Marks) (ys items : List Entry) (p : ℕ) → m.kind ≡ kind.Answer → ys ≡ items → HasNoMoreIn m p 0 ys → allows_at port.Reply items p ≡ false
unanswered m ys items p k is none = by (either (is_done (find (wants_reply p) items)))
  where
    by : (is_done (find (wants_reply p) items) ≡ true) ⊎ (is_done (find (wants_reply p) items) ≡ false) → is_done (find (wants_reply p) items) ≡ false
    by (inr not_so) = not_so
    by (inl so) =
        let s = done_such (wants_reply p) items so in
        let x = entry_at items s.at in
        let d = and_inv x.done (wants_reply p x) s.here in
        let w = and_inv (x.port == p) (not x.store && not x.replied) d.1 in
        let inside : in_row kind.Answer m.rows p x ≡ true = and_true (x.port == p) (x.done && (not x.store && not x.replied)) w.0 (and_true x.done (not x.store && not x.replied) d.0 w.1) in
        let len = ap length is in
        let w = s.within in
        let P : List Entry → Type 0 = λ zs. in_row m.kind m.rows p (entry_at zs s.at) ≡ false in
        let outside : in_row m.kind m.rows p x ≡ false = subst P is (none s.at (omega arith) (omega arith)) in
        absurd (false≢true (sym outside ∙ ap (λ kd. in_row kd m.rows p x) k ∙ inside))

pub answers_between : (m : Marks) (ys items : List Entry) (from at n row : ℕ) → m.kind ≡ kind.Answer → ys ≡ items → NonePast port.Reply items from at → IsNextRow m at n row ys → NonePast port.Reply items from row
answers_between m ys items from at n row k is h next p f l = by (cases_lt p at)
  where
    by : (p < at) ⊎ (at ≤ p) → allows_at port.Reply items p ≡ false
    by (inl a) = h p f a
    by (inr a) = unanswered m ys items p k is (next.before p a l)

pub answers_none : (m : Marks) (ys items : List Entry) (from at n : ℕ) → m.kind ≡ kind.Answer → ys ≡ items → InPorts n items → NonePast port.Reply items from at → HasNoRow m at n ys → HasNoPort (allows_at port.Reply items) from
answers_none m ys items from at n k is within h none p f = by (cases_lt p at) (cases_lt p n)
  where
    by : (p < at) ⊎ (at ≤ p) → (p < n) ⊎ (n ≤ p) → allows_at port.Reply items p ≡ false
    by (inl a) b = h p f a
    by (inr a) (inl b) = unanswered m ys items p k is (none p a b)
    by (inr a) (inr b) = ports_past port.Reply items n n n within (omega arith) (λ q g l. absurd (omega arith)) p b
