-- What two answers say of the same bytes: no two refusals hold of them, and none of a net's text.
use Rattle.std.proofs.Common.{◌≡◌, ◌≢◌, ◌⊎◌, inl, inr, ℕ, ◌+◌, ◌<◌, false, List, [], ◌∷◌, ◌++◌, length, drop, get_or, Result, Ok, Err, refl, sym, ap, subst, ◌∙◌, arith, append_assoc}
use Rattle.std.specs.List.{All}
use Rattle.std.proofs.lemmas.Bool.{false≢true}
use Rattle.std.proofs.lemmas.List.{append-nil}
use Rattle.net_types.specs.declared.net.Net.{Net}
use Rattle.net_text.specs.declared.body.BodyLine.{BodyLine}
use Rattle.net_text.specs.declared.body.BodyLine.TheVariants.{Scalar, Array, Result as ResultLine, Unit as UnitLine, Chan, End}
use Rattle.net_text.specs.declared.body.Stage.{Stage}
use Rattle.net_text.specs.declared.body.Stage.TheVariants.{Scalars, Ended}
use Rattle.net_text.specs.declared.refusal.TextRefusal.{TextRefusal}
use Rattle.net_text.specs.declared.refusal.TextRefusal.TheVariants as refusal
use Rattle.net_text.specs.declared.version.Version.{Version}
use Rattle.net_text.specs.declared.version.Version.TheVariants.{One, Two}
use Rattle.net_types.specs.declared.net.Unit.{Unit as Kind}
use Rattle.net_types.specs.declared.net.Unit.TheVariants.{Exit}
use Rattle.net_text.specs.Fits.{NetFits, IsWritten, Writes}
use Rattle.net_text.specs.Texts.{NetText, OldText, net_text, version_number}
use Rattle.net_text.specs.Reads.{lacks, version_text, kernel_text}
use Rattle.net_text.specs.Bodies.{Complete, text_of, first_text, texts, body_texts, may_stand}
use Rattle.net_text.specs.Refusals.{Begins, Spells, IsOtherVersion, IsMisplaced, IsWrongLine, IsCutShort, Says, ReadsBack, IsOnly}
use Rattle.net_text.proofs.Cuts.{cut_unique, cut_present}
use Rattle.net_text.proofs.Lists.{All_head, All_tail}
use Rattle.net_text.proofs.Paths.{Allowed, Path, path_at, body_path}
use Rattle.net_text.proofs.Texts.{body_reaches, is_first, one_version, first_complete, text_is}
use Rattle.net_text.proofs.OneNet.{net_one}
use Rattle.net_text.proofs.CompleteLines.{texts_complete}

cons_whole : (l : List ℕ) (ls : List (List ℕ)) (rest : List ℕ) → text_of (l ∷ ls) ++ rest ≡ l ++ 10 ∷ (text_of ls ++ rest)
cons_whole l ls rest = simp append_assoc refl

-- lines and what is left go on to further lines
record Prefix (a : List (List ℕ)) (r : List ℕ) (b : List (List ℕ)) (s : List ℕ) : Type 0 where
  k : List (List ℕ)
  lines : b ≡ a ++ k
  rest : r ≡ text_of k ++ s

prefix_cons : (x y : List ℕ) (a b : List (List ℕ)) (r s : List ℕ) → y ≡ x → Prefix a r b s → Prefix (x ∷ a) r (y ∷ b) s
prefix_cons x y a b r s e p = record { k = p.k; lines = ap (λ l. l ∷ b) e ∙ ap (λ l. x ∷ l) p.lines; rest = p.rest }

either_cons : (x y : List ℕ) (a b : List (List ℕ)) (r s : List ℕ) → x ≡ y → Prefix a r b s ⊎ Prefix b s a r → Prefix (x ∷ a) r (y ∷ b) s ⊎ Prefix (y ∷ b) s (x ∷ a) r
either_cons x y a b r s e (inl p) = inl (prefix_cons x y a b r s (sym e) p)
either_cons x y a b r s e (inr p) = inr (prefix_cons y x b a s r e p)

compare : (a b : List (List ℕ)) (r s : List ℕ) → All Complete a → All Complete b → text_of a ++ r ≡ text_of b ++ s → Prefix a r b s ⊎ Prefix b s a r
compare [] b r s ca cb e = inl (record { k = b; lines = refl; rest = e })
compare (x ∷ xs) [] r s ca cb e = inr (record { k = x ∷ xs; lines = refl; rest = sym e })
compare (x ∷ xs) (y ∷ ys) r s ca cb e =
    let cut = cut_unique 10 x (text_of xs ++ r) y (text_of ys ++ s) (All_head Complete x xs ca) (All_head Complete y ys cb) (sym (cons_whole x xs r) ∙ e ∙ cons_whole y ys s) in
    either_cons x y xs ys r s cut.0 (compare xs ys r s (All_tail Complete x xs ca) (All_tail Complete y ys cb) cut.1)

-- what is left of a text holds no complete line
no_line : (r l : List ℕ) (ls : List (List ℕ)) (s : List ℕ) → Complete r → r ≡ text_of (l ∷ ls) ++ s → ⊥
no_line r l ls s c e = cut_present 10 l (text_of ls ++ s) (ap (lacks 10) (sym (e ∙ cons_whole l ls s)) ∙ c)

abbrev Stops : List (List ℕ) → List ℕ → Type 0
Stops a r = IsMisplaced a r ⊎ (Spells a × (0 < length r))

spells_begins : (a : List (List ℕ)) → Spells a → Begins a
spells_begins a w = record { version = w.version; net = w.net; writes = w.writes; more = []; whole = w.whole ∙ sym (append-nil a) }

stops_begins : (a : List (List ℕ)) (r : List ℕ) → Stops a r → Begins a
stops_begins a r (inl m) = m.begins
stops_begins a r (inr w) = spells_begins a w.0

begins_less : (a k : List (List ℕ)) (l : List ℕ) → Begins (a ++ l ∷ k) → Begins (a ++ l ∷ [])
begins_less a k l b = record { version = b.version; net = b.net; writes = b.writes; more = k ++ b.more; whole = b.whole ∙ simp append_assoc refl }

never_ended : (x : BodyLine) → may_stand x Ended ≡ false
never_ended (Scalar s) = refl
never_ended (Array a) = refl
never_ended (ResultLine t) = refl
never_ended (UnitLine u) = refl
never_ended (Chan c) = refl
never_ended End = refl

-- no line comes after a whole text
spells_more : (a k : List (List ℕ)) (l : List ℕ) → Spells a → Begins (a ++ l ∷ k) → ⊥
spells_more a k l w b =
    let P : Stage → Type 0 = λ t. Allowed b.version t l in
    let same : body_texts b.version b.net ≡ body_texts w.version w.net ++ l ∷ (k ++ b.more) =
    ap (drop 2) (b.whole ∙ ap (λ ls. (ls ++ l ∷ k) ++ b.more) (sym w.whole)) ∙ append_assoc (body_texts w.version w.net) (l ∷ k) b.more in
    let at : Allowed b.version Ended l = subst P (body_reaches w.version w.net)
    (path_at b.version Scalars (body_texts w.version w.net) (k ++ b.more) l (subst (Path b.version Scalars) same (body_path b.version b.net b.writes))) in
    false≢true (sym (never_ended at.value) ∙ at.stands)

no_more : (a k : List (List ℕ)) (r s l : List ℕ) → Complete l → Stops a r → r ≡ text_of (l ∷ k) ++ s → Begins (a ++ l ∷ k) → ⊥
no_more a k r s l c (inl m) e b =
    let cut = cut_unique 10 m.text m.more l (text_of k ++ s) m.one c (sym m.whole ∙ e ∙ cons_whole l k s) in
    let P : List ℕ → Type 0 = λ t. Begins (a ++ t ∷ []) in
    m.misplaced (subst P (sym cut.0) (begins_less a k l b))
no_more a k r s l c (inr w) e b = spells_more a k l w.0 b

all_last : (a k : List (List ℕ)) (l : List ℕ) → All Complete (a ++ l ∷ k) → Complete l
all_last [] k l h = All_head Complete l k h
all_last (x ∷ xs) k l h = all_last xs k l (All_tail Complete x (xs ++ l ∷ k) h)

-- a text that stops at a line goes on to no other lines
stop_prefix : (a b : List (List ℕ)) (r s : List ℕ) (k : List (List ℕ)) → b ≡ a ++ k → r ≡ text_of k ++ s → All Complete b → Stops a r → Begins b → (a ≡ b) × (r ≡ s)
stop_prefix a b r s [] e f c st g = (sym (append-nil a) ∙ sym e, f)
stop_prefix a b r s (l ∷ k) e f c st g = absurd (no_more a k r s l (all_last a k l (subst (All Complete) e c)) st f (subst Begins e g))

complete_prefix : (a b : List (List ℕ)) (r s : List ℕ) (k : List (List ℕ)) → b ≡ a ++ k → r ≡ text_of k ++ s → Complete r → (a ≡ b) × (r ≡ s)
complete_prefix a b r s [] e f c = (sym (append-nil a) ∙ sym e, f)
complete_prefix a b r s (l ∷ k) e f c = absurd (no_line r l k s c f)

swap : (a b : List (List ℕ)) (r s : List ℕ) → (b ≡ a) × (s ≡ r) → (a ≡ b) × (r ≡ s)
swap a b r s p = (sym p.0, sym p.1)

both_stop : (a b : List (List ℕ)) (r s : List ℕ) → All Complete a → All Complete b → Stops a r → Stops b s → Prefix a r b s ⊎ Prefix b s a r → (a ≡ b) × (r ≡ s)
both_stop a b r s ca cb sa sb (inl p) = stop_prefix a b r s p.k p.lines p.rest cb sa (stops_begins b s sb)
both_stop a b r s ca cb sa sb (inr p) = swap a b r s (stop_prefix b a s r p.k p.lines p.rest ca sb (stops_begins a r sa))

stop_and_end : (a b : List (List ℕ)) (r s : List ℕ) → All Complete b → Stops a r → Begins b → Complete s → Prefix a r b s ⊎ Prefix b s a r → (a ≡ b) × (r ≡ s)
stop_and_end a b r s cb sa gb cs (inl p) = stop_prefix a b r s p.k p.lines p.rest cb sa gb
stop_and_end a b r s cb sa gb cs (inr p) = swap a b r s (complete_prefix b a s r p.k p.lines p.rest cs)

both_end : (a b : List (List ℕ)) (r s : List ℕ) → Complete r → Complete s → Prefix a r b s ⊎ Prefix b s a r → (a ≡ b) × (r ≡ s)
both_end a b r s ca cb (inl p) = complete_prefix a b r s p.k p.lines p.rest ca
both_end a b r s ca cb (inr p) = swap a b r s (complete_prefix b a s r p.k p.lines p.rest cb)

line_line : (bytes : List ℕ) (n m : ℕ) → IsWrongLine bytes n → IsWrongLine bytes m → n ≡ m
line_line bytes n m w v =
    let same = both_stop w.before v.before w.rest v.rest w.complete v.complete w.wrong v.wrong (compare w.before v.before w.rest v.rest w.complete v.complete (sym w.whole ∙ v.whole)) in
    w.counted ∙ ap (λ ls. length ls + 1) same.0 ∙ sym v.counted

ends_stop : (a b : List (List ℕ)) (r s : List ℕ) → Stops a r → a ≡ b → r ≡ s → Complete s → (Spells b → ⊥) → ⊥
ends_stop a b r s (inl m) e f c un = cut_present 10 m.text m.more (ap (lacks 10) (sym m.whole ∙ f) ∙ c)
ends_stop a b r s (inr w) e f c un = un (subst Spells e w.0)

line_ends : (bytes : List ℕ) (n : ℕ) → IsWrongLine bytes n → IsCutShort bytes → ⊥
line_ends bytes n w v =
    let same = stop_and_end w.before v.before w.rest v.rest v.complete w.wrong v.begins v.incomplete (compare w.before v.before w.rest v.rest w.complete v.complete (sym w.whole ∙ v.whole)) in
    ends_stop w.before v.before w.rest v.rest w.wrong same.0 same.1 v.incomplete v.unended

-- version 2 writes each unit
all_marks : (u : Kind) → IsWritten Two u
all_marks Exit = tt
all_marks _ = tt

two_is_not_one : Two ≢ One
two_is_not_one e = omega (arith, ap version_number e)

-- bytes are the text of a net that a version can write
record IsIn (bytes : List ℕ) (net : Net) : Type 0 where
  version : Version
  writes : Writes version net
  whole : bytes ≡ text_of (texts version net) ++ []

in_version : (ver : Version) (bytes : List ℕ) (net : Net) → NetFits net → All (IsWritten ver) net.units → bytes ≡ net_text ver net → IsIn bytes net
in_version ver bytes net f w t = record { version = ver; writes = record { fits = f; written = w }; whole = t ∙ sym (text_is ver net) ∙ sym (append-nil (text_of (texts ver net))) }

is_in : (bytes : List ℕ) (net : Net) → NetFits net → NetText net bytes ⊎ OldText net bytes → IsIn bytes net
is_in bytes net f (inl t) = in_version Two bytes net f (λ k d l. all_marks (get_or net.units k d)) t
is_in bytes net f (inr t) = in_version One bytes net f t.unmarked t.text

own : (bytes : List ℕ) (net : Net) (t : IsIn bytes net) → Spells (texts t.version net)
own bytes net t = record { version = t.version; net = net; writes = t.writes; whole = refl }

in_complete : (bytes : List ℕ) (net : Net) (t : IsIn bytes net) → All Complete (texts t.version net)
in_complete bytes net t = texts_complete t.version net t.writes.fits

line_stop : (a : List (List ℕ)) (r : List ℕ) → Stops a r → r ≡ [] → ⊥
line_stop a r (inl m) f = cut_present 10 m.text m.more (ap (lacks 10) (sym m.whole ∙ f))
line_stop a r (inr w) f = omega (arith, w.1, ap length f)

net_line : (bytes : List ℕ) (net : Net) (n : ℕ) → IsIn bytes net → IsWrongLine bytes n → ⊥
net_line bytes net n t w =
    let same = stop_and_end w.before (texts t.version net) w.rest [] (in_complete bytes net t) w.wrong (spells_begins (texts t.version net) (own bytes net t)) refl
    (compare w.before (texts t.version net) w.rest [] w.complete (in_complete bytes net t) (sym w.whole ∙ t.whole)) in
    line_stop w.before w.rest w.wrong same.1

net_ends : (bytes : List ℕ) (net : Net) → IsIn bytes net → IsCutShort bytes → ⊥
net_ends bytes net t w =
    let same = both_end (texts t.version net) w.before [] w.rest refl w.incomplete (compare (texts t.version net) w.before [] w.rest (in_complete bytes net t) w.complete (sym t.whole ∙ w.whole)) in
    w.unended (subst Spells same.0 (own bytes net t))

lines_version : (bytes : List ℕ) (ls : List (List ℕ)) (rest : List ℕ) → bytes ≡ text_of ls ++ rest → Begins ls → (ls ≡ [] → Complete rest) → IsOtherVersion bytes → ⊥
lines_version bytes [] rest e b c o = cut_present 10 (version_text o.number) o.more (ap (lacks 10) (sym o.whole ∙ e) ∙ c refl)
lines_version bytes (l ∷ ls) rest e b c o =
    let first : l ≡ first_text b.version = sym (ap (λ l. get_or l 0 []) b.whole) in
    is_first b.version (text_of ls ++ rest) (subst IsOtherVersion (e ∙ cons_whole l ls rest ∙ ap (λ l. l ++ 10 ∷ (text_of ls ++ rest)) first) o)

net_version : (bytes : List ℕ) (net : Net) → IsIn bytes net → IsOtherVersion bytes → ⊥
net_version bytes net t o = lines_version bytes (texts t.version net) [] t.whole (spells_begins (texts t.version net) (own bytes net t)) (λ e. refl) o

ends_version : (bytes : List ℕ) → IsCutShort bytes → IsOtherVersion bytes → ⊥
ends_version bytes w o = lines_version bytes w.before w.rest w.whole w.begins (λ e. w.incomplete) o

-- a refusal that holds of the bytes is the answer
pub only_refusal : (bytes : List ℕ) (r : Result Net TextRefusal) (e : TextRefusal) → Says bytes r → e ≢ refusal.Memory → Says bytes (Err e) → (r ≡ Err e) ⊎ (r ≡ Err refusal.Memory)
only_refusal bytes (Err refusal.Memory) e s m t = inr refl
only_refusal bytes r refusal.Memory s m t = absurd (m refl)
only_refusal bytes (Ok net) refusal.Version s m t = absurd (net_version bytes net (is_in bytes net s.0 s.1) t)
only_refusal bytes (Ok net) (refusal.Line n) s m t = absurd (net_line bytes net n (is_in bytes net s.0 s.1) t.1)
only_refusal bytes (Ok net) refusal.Ends s m t = absurd (net_ends bytes net (is_in bytes net s.0 s.1) t)
only_refusal bytes (Err refusal.Version) refusal.Version s m t = inl refl
only_refusal bytes (Err refusal.Version) (refusal.Line n) s m t = absurd (t.0 s)
only_refusal bytes (Err refusal.Version) refusal.Ends s m t = absurd (ends_version bytes t s)
only_refusal bytes (Err (refusal.Line n)) refusal.Version s m t = absurd (s.0 t)
only_refusal bytes (Err (refusal.Line n)) (refusal.Line k) s m t = inl (ap (λ i. Err (refusal.Line i)) (line_line bytes n k s.1 t.1))
only_refusal bytes (Err (refusal.Line n)) refusal.Ends s m t = absurd (line_ends bytes n s.1 t)
only_refusal bytes (Err refusal.Ends) refusal.Version s m t = absurd (ends_version bytes s t)
only_refusal bytes (Err refusal.Ends) (refusal.Line n) s m t = absurd (line_ends bytes n t.1 s)
only_refusal bytes (Err refusal.Ends) refusal.Ends s m t = inl refl

-- two nets of one text are one
net_net : (bytes : List ℕ) (m n : Net) → IsIn bytes m → IsIn bytes n → m ≡ n
net_net bytes m n s t =
    let same = both_end (texts s.version m) (texts t.version n) [] [] refl refl (compare (texts s.version m) (texts t.version n) [] [] (in_complete bytes m s) (in_complete bytes n t) (sym s.whole ∙ t.whole)) in
    let at : s.version ≡ t.version = one_version s.version t.version (ap (λ l. get_or l 0 []) same.0) in
    let P : Version → Type 0 = λ v. Writes v m × (texts v m ≡ texts t.version n) in
    let moved : P t.version = subst P at (s.writes, same.0) in
    net_one t.version m n moved.0 t.writes moved.1

-- an answer that holds of the bytes is the only one
pub only_answer : (bytes : List ℕ) (r : Result Net TextRefusal) → Says bytes r → IsOnly bytes r
only_answer bytes r s (Err e) m t = only_refusal bytes r e s (λ x. m (ap Err x)) t
only_answer bytes (Ok net) s (Ok other) m t = inl (ap Ok (net_net bytes net other (is_in bytes net s.0 s.1) (is_in bytes other t.0 t.1)))
only_answer bytes (Err refusal.Memory) s (Ok other) m t = inr refl
only_answer bytes (Err refusal.Version) s (Ok other) m t = absurd (net_version bytes other (is_in bytes other t.0 t.1) s)
only_answer bytes (Err (refusal.Line n)) s (Ok other) m t = absurd (net_line bytes other n (is_in bytes other t.0 t.1) s.1)
only_answer bytes (Err refusal.Ends) s (Ok other) m t = absurd (net_ends bytes other (is_in bytes other t.0 t.1) s)

-- an answer that holds of a net's text is the net
pub reads_back : (bytes : List ℕ) (net : Net) → NetFits net → NetText net bytes → ReadsBack bytes net
reads_back bytes net f t (Ok other) s = inl (ap Ok (net_net bytes other net (is_in bytes other s.0 s.1) (is_in bytes net f (inl t))))
reads_back bytes net f t (Err refusal.Memory) s = inr refl
reads_back bytes net f t (Err refusal.Version) s = absurd (net_version bytes net (is_in bytes net f (inl t)) s)
reads_back bytes net f t (Err (refusal.Line n)) s = absurd (net_line bytes net n (is_in bytes net f (inl t)) s.1)
reads_back bytes net f t (Err refusal.Ends) s = absurd (net_ends bytes net (is_in bytes net f (inl t)) s)

-- the laws of texts
pub one_net : (m n : Net) (bytes : List ℕ) → NetFits m → NetFits n → NetText m bytes → NetText n bytes → m ≡ n
one_net m n bytes f g s t = net_net bytes m n (is_in bytes m f (inl s)) (is_in bytes n g (inl t))

pub one_old_net : (m n : Net) (bytes : List ℕ) → NetFits m → NetFits n → OldText m bytes → OldText n bytes → m ≡ n
one_old_net m n bytes f g s t = net_net bytes m n (is_in bytes m f (inr s)) (is_in bytes n g (inr t))

begin_line : (ver : Version) (net : Net) → (rest : List ℕ) × (net_text ver net ≡ first_text ver ++ 10 ∷ rest)
begin_line ver net = (text_of (kernel_text net.name ∷ body_texts ver net), sym (text_is ver net) ∙ append_assoc (first_text ver) (10 ∷ []) (text_of (kernel_text net.name ∷ body_texts ver net)))

pub other_version : (m n : Net) (bytes : List ℕ) → NetText m bytes → OldText n bytes → ⊥
other_version m n bytes s t =
    let a = begin_line Two m in
    let b = begin_line One n in
    let cut = cut_unique 10 (first_text Two) a.0 (first_text One) b.0 (first_complete Two) (first_complete One) (sym a.1 ∙ sym s ∙ t.text ∙ b.1) in
    two_is_not_one (one_version Two One cut.0)
