-- What two answers say of the same bytes: no two refusals hold of them, and none of a state's text.
use Rattle.std.proofs.Common.{◌≡◌, ◌⊎◌, inl, inr, ℕ, ◌+◌, ◌<◌, List, [], ◌∷◌, ◌++◌, length, Result, Ok, Err, refl, sym, ap, subst, ◌∙◌, arith, append_assoc}
use Rattle.std.specs.List.{All}
use Rattle.std.proofs.lemmas.List.{append-nil, append_cancel_left}
use Rattle.net_types.specs.declared.net.Net.{Net}
use Rattle.net_text.specs.Reads.{lacks}
use Rattle.net_text.specs.Bodies.{Complete, text_of}
use Rattle.net_text.proofs.Cuts.{cut_unique, cut_present}
use Rattle.net_text.proofs.Lists.{All_head, All_tail}
use Rattle.snapshot.specs.declared.refusal.SnapRefusal.{SnapRefusal}
use Rattle.snapshot.specs.declared.refusal.SnapRefusal.TheVariants as refusal
use Rattle.snapshot.specs.declared.saved.Saved.{Saved}
use Rattle.snapshot.specs.Refusals.{MaySave, Begins, Spells, IsMisplaced, IsWrongLine, IsCutShort, Says, IsOnly, texts}
use Rattle.snapshot.specs.private.Drafts.{IsOneIn}

cons_whole : (l : List ℕ) (ls : List (List ℕ)) (rest : List ℕ) → text_of (l ∷ ls) ++ rest ≡ l ++ 10 ∷ (text_of ls ++ rest)
cons_whole l ls rest = simp append_assoc refl

-- lines and what is left go on to further lines
record Prefix (a : List (List ℕ)) (r : List ℕ) (b : List (List ℕ)) (s : List ℕ) : Type 0 where
  k : List (List ℕ)
  lines : b ≡ a ++ k
  rest : r ≡ text_of k ++ s

prefix_cons : (x y : List ℕ) (a b : List (List ℕ)) (r s : List ℕ) → y ≡ x → Prefix a r b s → Prefix (x ∷ a) r (y ∷ b) s
prefix_cons x y a b r s e p = record { k = p.k; lines = ap (λ l. l ∷ b) e ∙ ap (λ l. x ∷ l) p.lines; rest = p.rest }

either_cons : (x y : List ℕ) (a b : List (List ℕ)) (r s : List ℕ) → x ≡ y → Prefix a r b s ⊎ Prefix b s a r → Prefix (x ∷ a) r (y ∷ b) s ⊎ Prefix (y ∷ b) s (x ∷ a) r
either_cons x y a b r s e (inl p) = inl (prefix_cons x y a b r s (sym e) p)
either_cons x y a b r s e (inr p) = inr (prefix_cons y x b a s r e p)

compare : (a b : List (List ℕ)) (r s : List ℕ) → All Complete a → All Complete b → text_of a ++ r ≡ text_of b ++ s → Prefix a r b s ⊎ Prefix b s a r
compare [] b r s ca cb e = inl (record { k = b; lines = refl; rest = e })
compare (x ∷ xs) [] r s ca cb e = inr (record { k = x ∷ xs; lines = refl; rest = sym e })
compare (x ∷ xs) (y ∷ ys) r s ca cb e =
    let cut = cut_unique 10 x (text_of xs ++ r) y (text_of ys ++ s) (All_head Complete x xs ca) (All_head Complete y ys cb) (sym (cons_whole x xs r) ∙ e ∙ cons_whole y ys s) in
    either_cons x y xs ys r s cut.0 (compare xs ys r s (All_tail Complete x xs ca) (All_tail Complete y ys cb) cut.1)

-- what is left of a text holds no complete line
no_line : (r l : List ℕ) (ls : List (List ℕ)) (s : List ℕ) → Complete r → r ≡ text_of (l ∷ ls) ++ s → ⊥
no_line r l ls s c e = cut_present 10 l (text_of ls ++ s) (ap (lacks 10) (sym (e ∙ cons_whole l ls s)) ∙ c)

all_last : (a k : List (List ℕ)) (l : List ℕ) → All Complete (a ++ l ∷ k) → Complete l
all_last [] k l h = All_head Complete l k h
all_last (x ∷ xs) k l h = all_last xs k l (All_tail Complete x (xs ++ l ∷ k) h)

complete_prefix : (a b : List (List ℕ)) (r s : List ℕ) (k : List (List ℕ)) → b ≡ a ++ k → r ≡ text_of k ++ s → Complete r → (a ≡ b) × (r ≡ s)
complete_prefix a b r s [] e f c = (sym (append-nil a) ∙ sym e, f)
complete_prefix a b r s (l ∷ k) e f c = absurd (no_line r l k s c f)

swap : (a b : List (List ℕ)) (r s : List ℕ) → (b ≡ a) × (s ≡ r) → (a ≡ b) × (r ≡ s)
swap a b r s p = (sym p.0, sym p.1)

both_end : (a b : List (List ℕ)) (r s : List ℕ) → Complete r → Complete s → Prefix a r b s ⊎ Prefix b s a r → (a ≡ b) × (r ≡ s)
both_end a b r s ca cb (inl p) = complete_prefix a b r s p.k p.lines p.rest ca
both_end a b r s ca cb (inr p) = swap a b r s (complete_prefix b a s r p.k p.lines p.rest cb)

-- a list of lines that a longer one begins with ends with no last line of its own
unending : (ls more : List (List ℕ)) (l : List ℕ) → ls ≡ ls ++ l ∷ more → ⊥
unending ls more l e = absurd (let z = ap length (append_cancel_left ls [] (l ∷ more) (append-nil ls ∙ e)) in omega arith)

-- no whole text is the beginning of another: the last line of each is the same and stands once
abbrev pub EndsOnce : Net → Type 0
EndsOnce net = (a : List (List ℕ)) (l : List ℕ) → Spells net a → Begins net (a ++ l ∷ []) → ⊥

module _ (net : Net) (full : (s : Saved) → MaySave net s → All Complete (texts net s)) (ends : EndsOnce net) where
  abbrev Stops : List (List ℕ) → List ℕ → Type 0
  Stops a r = IsMisplaced net a r ⊎ (Spells net a × (0 < length r))

  spells_begins : (a : List (List ℕ)) → Spells net a → Begins net a
  spells_begins a w = record { saved = w.saved; may = w.may; more = []; whole = w.whole ∙ sym (append-nil a) }

  stops_begins : (a : List (List ℕ)) (r : List ℕ) → Stops a r → Begins net a
  stops_begins a r (inl m) = m.begins
  stops_begins a r (inr w) = spells_begins a w.0

  begins_less : (a k : List (List ℕ)) (l : List ℕ) → Begins net (a ++ l ∷ k) → Begins net (a ++ l ∷ [])
  begins_less a k l b = record { saved = b.saved; may = b.may; more = k ++ b.more; whole = b.whole ∙ simp append_assoc refl }

  no_more : (a k : List (List ℕ)) (r s l : List ℕ) → Complete l → Stops a r → r ≡ text_of (l ∷ k) ++ s → Begins net (a ++ l ∷ k) → ⊥
  no_more a k r s l c (inl m) e b =
      let cut = cut_unique 10 m.text m.more l (text_of k ++ s) m.one c (sym m.whole ∙ e ∙ cons_whole l k s) in
      let P : List ℕ → Type 0 = λ t. Begins net (a ++ t ∷ []) in
      m.misplaced (subst P (sym cut.0) (begins_less a k l b))
  no_more a k r s l c (inr w) e b = ends a l w.0 (begins_less a k l b)

  -- a text that stops at a line goes on to no other lines
  stop_prefix : (a b : List (List ℕ)) (r s : List ℕ) (k : List (List ℕ)) → b ≡ a ++ k → r ≡ text_of k ++ s → All Complete b → Stops a r → Begins net b → (a ≡ b) × (r ≡ s)
  stop_prefix a b r s [] e f c st g = (sym (append-nil a) ∙ sym e, f)
  stop_prefix a b r s (l ∷ k) e f c st g = absurd (no_more a k r s l (all_last a k l (subst (All Complete) e c)) st f (subst (Begins net) e g))

  both_stop : (a b : List (List ℕ)) (r s : List ℕ) → All Complete a → All Complete b → Stops a r → Stops b s → Prefix a r b s ⊎ Prefix b s a r → (a ≡ b) × (r ≡ s)
  both_stop a b r s ca cb sa sb (inl p) = stop_prefix a b r s p.k p.lines p.rest cb sa (stops_begins b s sb)
  both_stop a b r s ca cb sa sb (inr p) = swap a b r s (stop_prefix b a s r p.k p.lines p.rest ca sb (stops_begins a r sa))

  stop_and_end : (a b : List (List ℕ)) (r s : List ℕ) → All Complete b → Stops a r → Begins net b → Complete s → Prefix a r b s ⊎ Prefix b s a r → (a ≡ b) × (r ≡ s)
  stop_and_end a b r s cb sa gb cs (inl p) = stop_prefix a b r s p.k p.lines p.rest cb sa gb
  stop_and_end a b r s cb sa gb cs (inr p) = swap a b r s (complete_prefix b a s r p.k p.lines p.rest cs)

  line_line : (bytes : List ℕ) (n m : ℕ) → IsWrongLine net bytes n → IsWrongLine net bytes m → n ≡ m
  line_line bytes n m w v =
      let same = both_stop w.before v.before w.rest v.rest w.complete v.complete w.wrong v.wrong (compare w.before v.before w.rest v.rest w.complete v.complete (sym w.whole ∙ v.whole)) in
      w.counted ∙ ap (λ ls. length ls + 1) same.0 ∙ sym v.counted

  ends_stop : (a b : List (List ℕ)) (r s : List ℕ) → Stops a r → a ≡ b → r ≡ s → Complete s → (Spells net b → ⊥) → ⊥
  ends_stop a b r s (inl m) e f c un = cut_present 10 m.text m.more (ap (lacks 10) (sym m.whole ∙ f) ∙ c)
  ends_stop a b r s (inr w) e f c un = un (subst (Spells net) e w.0)

  line_ends : (bytes : List ℕ) (n : ℕ) → IsWrongLine net bytes n → IsCutShort net bytes → ⊥
  line_ends bytes n w v =
      let same = stop_and_end w.before v.before w.rest v.rest v.complete w.wrong v.begins v.incomplete (compare w.before v.before w.rest v.rest w.complete v.complete (sym w.whole ∙ v.whole)) in
      ends_stop w.before v.before w.rest v.rest w.wrong same.0 same.1 v.incomplete v.unended

  own : (s : Saved) → MaySave net s → Spells net (texts net s)
  own s m = record { saved = s; may = m; whole = refl }

  line_stop : (a : List (List ℕ)) (r : List ℕ) → Stops a r → r ≡ [] → ⊥
  line_stop a r (inl m) f = cut_present 10 m.text m.more (ap (lacks 10) (sym m.whole ∙ f))
  line_stop a r (inr w) f = omega (arith, w.1, ap length f)

  at_end : (bytes : List ℕ) (s : Saved) → bytes ≡ text_of (texts net s) → bytes ≡ text_of (texts net s) ++ []
  at_end bytes s t = t ∙ sym (append-nil (text_of (texts net s)))

  saved_line : (bytes : List ℕ) (s : Saved) (n : ℕ) → MaySave net s → bytes ≡ text_of (texts net s) → IsWrongLine net bytes n → ⊥
  saved_line bytes s n m t w =
      let same = stop_and_end w.before (texts net s) w.rest [] (full s m) w.wrong (spells_begins (texts net s) (own s m)) refl
      (compare w.before (texts net s) w.rest [] w.complete (full s m) (sym w.whole ∙ at_end bytes s t)) in
      line_stop w.before w.rest w.wrong same.1

  saved_ends : (bytes : List ℕ) (s : Saved) → MaySave net s → bytes ≡ text_of (texts net s) → IsCutShort net bytes → ⊥
  saved_ends bytes s m t w =
      let same = both_end (texts net s) w.before [] w.rest refl w.incomplete (compare (texts net s) w.before [] w.rest (full s m) w.complete (sym (at_end bytes s t) ∙ w.whole)) in
      w.unended (subst (Spells net) same.0 (own s m))

  one_text : (bytes : List ℕ) (s r : Saved) → MaySave net s → MaySave net r → bytes ≡ text_of (texts net s) → bytes ≡ text_of (texts net r) → texts net r ≡ texts net s
  one_text bytes s r m k t u =
      (both_end (texts net r) (texts net s) [] [] refl refl (compare (texts net r) (texts net s) [] [] (full r k) (full s m) (sym (at_end bytes r u) ∙ at_end bytes s t))).0

  -- an answer that holds of the bytes is the only one
  pub only_answer : (bytes : List ℕ) (r : Result Saved SnapRefusal) → Says net bytes r → IsOneIn net r → IsOnly net bytes r
  only_answer bytes (Err refusal.Memory) s one other m t = inr refl
  only_answer bytes (Ok s) sa one (Ok o) m t = inl (ap Ok (sym (one o t.0 (one_text bytes s o sa.0 t.0 sa.1 t.1))))
  only_answer bytes (Ok s) sa one (Err (refusal.Line n)) m t = absurd (saved_line bytes s n sa.0 sa.1 t)
  only_answer bytes (Ok s) sa one (Err refusal.Ends) m t = absurd (saved_ends bytes s sa.0 sa.1 t)
  only_answer bytes (Ok s) sa one (Err refusal.Memory) m t = absurd (m refl)
  only_answer bytes (Err (refusal.Line n)) sa one (Ok o) m t = absurd (saved_line bytes o n t.0 t.1 sa)
  only_answer bytes (Err (refusal.Line n)) sa one (Err (refusal.Line k)) m t = inl (ap (λ i. Err (refusal.Line i)) (line_line bytes n k sa t))
  only_answer bytes (Err (refusal.Line n)) sa one (Err refusal.Ends) m t = absurd (line_ends bytes n sa t)
  only_answer bytes (Err (refusal.Line n)) sa one (Err refusal.Memory) m t = absurd (m refl)
  only_answer bytes (Err refusal.Ends) sa one (Ok o) m t = absurd (saved_ends bytes o t.0 t.1 sa)
  only_answer bytes (Err refusal.Ends) sa one (Err (refusal.Line n)) m t = absurd (line_ends bytes n t sa)
  only_answer bytes (Err refusal.Ends) sa one (Err refusal.Ends) m t = inl refl
  only_answer bytes (Err refusal.Ends) sa one (Err refusal.Memory) m t = absurd (m refl)
