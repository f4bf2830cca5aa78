-- From the fault of a call to its status, its cause and its line.
use Rattle.std.proofs.Common.{◌≡◌, ◌≢◌, ◌≤◌, ◌<◌, ℕ, zero, suc, List, [], ◌∷◌, get_or, length, refl, sym, ◌∙◌, ap, subst, arith, Contains}
use Rattle.std.specs.Prelude.{Err}
use Rattle.el_io.specs.Outside.{Told, IsHeld, IsWhole, MayPass, MayHold}
use Rattle.command_words.specs.declared.verb.Verb.{Verb}
use Rattle.command_words.specs.declared.verb.Verb.TheVariants.{Compile, Go, Run, Replay, Bench, Upgrade, Ref, Save, Resume}
use Rattle.command_words.specs.Tables.{Text, plain_of}
use Rattle.command_words.specs.Commands.{Asked}
use Rattle.elastic_top.specs.Files.{Wanted, files_of, wanted}
use Rattle.elastic_top.specs.Reading.{AreHeld, IsReached}
use Rattle.elastic_top.specs.Answers.{Answers}
use Rattle.elastic_top.specs.Faults.{fault_code, fault_line, write_line, memory_line}
use Rattle.elastic_top.specs.Statuses.{statuses, statuses_of}
use Rattle.elastic_top.specs.Causes.{IsCauseOf, IsOwn, Unread, Writes, RefusesWith, AreToldWithin, AreSound, TooLong as TooLongOf}
use Rattle.elastic_top.specs.declared.fault.Fault.{Fault}
use Rattle.elastic_top.specs.declared.fault.Fault.TheVariants.{Usage, Read, Write, Memory, TooLong, Refused}
use Rattle.elastic_top.proofs.RefusalLemmas.{judged, own}

-- each fault has one of the statuses
pub any_status : (f : Fault) → Contains statuses (fault_code f)
any_status Usage = (1, omega arith, refl)
any_status (Read x) = (2, omega arith, refl)
any_status Write = (3, omega arith, refl)
any_status Memory = (11, omega arith, refl)
any_status (TooLong x) = (12, omega arith, refl)
any_status (Refused r) = (judged r).listed

-- and none has that of a call that is done
pub not_done : (f : Fault) → fault_code f ≢ 0
not_done Usage = λ e. absurd (omega (arith, e))
not_done (Read x) = λ e. absurd (omega (arith, e))
not_done Write = λ e. absurd (omega (arith, e))
not_done Memory = λ e. absurd (omega (arith, e))
not_done (TooLong x) = λ e. absurd (omega (arith, e))
not_done (Refused r) = (judged r).some

-- those of the outside, but for files, stand in the list of each command
pub record HasOutside (list : List ℕ) : Type 0 where
  pub done : Contains list 0
  pub unwritten : Contains list 3
  pub memory : Contains list 11

pub outside : (v : Verb) → HasOutside (statuses_of v)
outside Compile = record { done = (0, omega arith, refl); unwritten = (2, omega arith, refl); memory = (4, omega arith, refl) }
outside Go = record { done = (0, omega arith, refl); unwritten = (2, omega arith, refl); memory = (7, omega arith, refl) }
outside Run = record { done = (0, omega arith, refl); unwritten = (2, omega arith, refl); memory = (8, omega arith, refl) }
outside Replay = record { done = (0, omega arith, refl); unwritten = (2, omega arith, refl); memory = (8, omega arith, refl) }
outside Bench = record { done = (0, omega arith, refl); unwritten = (1, omega arith, refl); memory = (2, omega arith, refl) }
outside Upgrade = record { done = (0, omega arith, refl); unwritten = (2, omega arith, refl); memory = (4, omega arith, refl) }
outside Ref = record { done = (0, omega arith, refl); unwritten = (2, omega arith, refl); memory = (5, omega arith, refl) }
outside Save = record { done = (0, omega arith, refl); unwritten = (2, omega arith, refl); memory = (5, omega arith, refl) }
outside Resume = record { done = (0, omega arith, refl); unwritten = (2, omega arith, refl); memory = (7, omega arith, refl) }

-- those of files stand in the list of each that names a file
record HasFiles (list : List ℕ) : Type 0 where
  pub unread : Contains list 2
  pub long : Contains list 12

-- a bench names none
no_files : (plain : List Text) → wanted (plain_of Bench) plain ≡ []
no_files [] = refl
no_files (w ∷ plain) = refl

no_place : (holds : Text → Told) (files : List Wanted) (file : Wanted) → files ≡ [] → IsReached holds files file → ⊥
no_place holds files file e is = absurd (omega (arith, is.within, ap length e))

reads : (holds : Text → Told) (v : Verb) (plain : List Text) (file : Wanted) → IsReached holds (wanted (plain_of v) plain) file
    → HasFiles (statuses_of v)
reads holds Compile plain file is = record { unread = (1, omega arith, refl); long = (5, omega arith, refl) }
reads holds Go plain file is = record { unread = (1, omega arith, refl); long = (8, omega arith, refl) }
reads holds Run plain file is = record { unread = (1, omega arith, refl); long = (9, omega arith, refl) }
reads holds Replay plain file is = record { unread = (1, omega arith, refl); long = (9, omega arith, refl) }
reads holds Bench plain file is = absurd (no_place holds (wanted (plain_of Bench) plain) file (no_files plain) is)
reads holds Upgrade plain file is = record { unread = (1, omega arith, refl); long = (5, omega arith, refl) }
reads holds Ref plain file is = record { unread = (1, omega arith, refl); long = (6, omega arith, refl) }
reads holds Save plain file is = record { unread = (1, omega arith, refl); long = (6, omega arith, refl) }
reads holds Resume plain file is = record { unread = (1, omega arith, refl); long = (8, omega arith, refl) }

module _ (holds : Text → Told) (steady : Type 0) (long : ℕ) (Cut : Text → Type 0) where
  pub status_of : (c : Asked) (f : Fault) → IsCauseOf holds steady long Cut c f → Contains (statuses_of c.verb) (fault_code f)
  status_of c Usage is = absurd is
  status_of c (Read x) is = (reads holds c.verb c.plain is.file is.reached).unread
  status_of c Write is = (outside c.verb).unwritten
  status_of c Memory is = (outside c.verb).memory
  status_of c (TooLong x) is = (reads holds c.verb c.plain is.file is.reached).long
  status_of c (Refused r) is = own c.verb c.plain c.chosen is.contents r is.answer.1

  pub spelled_of : (c : Asked) (f : Fault) → IsCauseOf holds steady long Cut c f → fault_code f ≢ 1
  spelled_of c Usage is = absurd is
  spelled_of c (Read x) is = λ e. absurd (omega (arith, e))
  spelled_of c Write is = λ e. absurd (omega (arith, e))
  spelled_of c Memory is = λ e. absurd (omega (arith, e))
  spelled_of c (TooLong x) is = λ e. absurd (omega (arith, e))
  spelled_of c (Refused r) is = (judged r).spelled

  pub unread_of : (c : Asked) (f : Fault) (Tells : Text → Type 0) → IsCauseOf holds steady long Cut c f → fault_code f ≡ 2 → Tells (fault_line f) → Unread holds steady c Tells
  unread_of c (Read x) Tells is e told = record { name = x.now; cause = is; told = told }
  unread_of c Usage Tells is e told = absurd is
  unread_of c Write Tells is e told = absurd (omega (arith, e))
  unread_of c Memory Tells is e told = absurd (omega (arith, e))
  unread_of c (TooLong x) Tells is e told = absurd (omega (arith, e))
  unread_of c (Refused r) Tells is e told = absurd ((judged r).unread e)

  pub long_of : (c : Asked) (f : Fault) (Tells : Text → Type 0) → IsCauseOf holds steady long Cut c f → fault_code f ≡ 12 → Tells (fault_line f) → TooLongOf holds long c Tells
  long_of c (TooLong x) Tells is e told = record { name = x.now; cause = is; told = told }
  long_of c Usage Tells is e told = absurd is
  long_of c (Read x) Tells is e told = absurd (omega (arith, e))
  long_of c Write Tells is e told = absurd (omega (arith, e))
  long_of c Memory Tells is e told = absurd (omega (arith, e))
  long_of c (Refused r) Tells is e told = absurd ((judged r).long e)

  pub cut_of : (c : Asked) (f : Fault) → IsCauseOf holds steady long Cut c f → fault_code f ≡ 3 → Writes holds c Cut
  cut_of c Write is e = is
  cut_of c Usage is e = absurd is
  cut_of c (Read x) is e = absurd (omega (arith, e))
  cut_of c Memory is e = absurd (omega (arith, e))
  cut_of c (TooLong x) is e = absurd (omega (arith, e))
  cut_of c (Refused r) is e = absurd ((judged r).unwritten e)

  pub refused_of : (c : Asked) (f : Fault) (Tells : Text → Type 0) → IsCauseOf holds steady long Cut c f → IsOwn (fault_code f) → Tells (fault_line f)
      → RefusesWith holds c (fault_code f) Tells
  refused_of c (Refused r) Tells is o told = record { refusal = r; cause = is; status = refl; told = told }
  refused_of c Usage Tells is o told = absurd is
  refused_of c (Read x) Tells is o told = absurd (o.2 refl)
  refused_of c Write Tells is o told = absurd (o.3 refl)
  refused_of c Memory Tells is o told = absurd (o.4 refl)
  refused_of c (TooLong x) Tells is o told = absurd (o.5 refl)

  pub unwritten_of : (c : Asked) (f : Fault) → IsCauseOf holds steady long Cut c f → fault_code f ≡ 3 → fault_line f ≡ write_line
  unwritten_of c Write is e = refl
  unwritten_of c Usage is e = absurd is
  unwritten_of c (Read x) is e = absurd (omega (arith, e))
  unwritten_of c Memory is e = absurd (omega (arith, e))
  unwritten_of c (TooLong x) is e = absurd (omega (arith, e))
  unwritten_of c (Refused r) is e = absurd ((judged r).unwritten e)

  pub memory_of : (c : Asked) (f : Fault) → IsCauseOf holds steady long Cut c f → fault_code f ≡ 11 → fault_line f ≡ memory_line
  memory_of c Memory is e = refl
  memory_of c Usage is e = absurd is
  memory_of c (Read x) is e = absurd (omega (arith, e))
  memory_of c Write is e = absurd (omega (arith, e))
  memory_of c (TooLong x) is e = absurd (omega (arith, e))
  memory_of c (Refused r) is e = absurd ((judged r).memory is.answer.0 e)

record KeptFile (holds : Text → Told) (file : Wanted) : Type 0 where
  pub bytes : Text
  pub held : IsHeld (holds file.name) bytes
  pub bound : length bytes ≤ file.limit

kept_place : (holds : Text → Told) (files : List Wanted) (place : ℕ) (file : Wanted) (contents : List Text) → place < length files → AreToldWithin holds files contents
    → KeptFile holds (get_or files place file)
kept_place holds [] place file contents within k = absurd (omega (arith, within))
kept_place holds (f ∷ files) place file [] within k = absurd k
kept_place holds (f ∷ files) zero file (b ∷ bs) within k = record { bytes = b; held = k.0; bound = k.1 }
kept_place holds (f ∷ files) (suc place) file (b ∷ bs) within k = kept_place holds files place file bs (omega (arith, within)) k.2

-- so is the file that is reached
kept_file : (holds : Text → Told) (files : List Wanted) (file : Wanted) (contents : List Text) → IsReached holds files file → AreToldWithin holds files contents
    → KeptFile holds file
kept_file holds files file contents is k = subst (KeptFile holds) (sym is.here) (kept_place holds files is.place file contents is.within k)

one_content : (told : Told) (max : ℕ) (a b : Text) → IsWhole told max a → IsHeld told b → a ≡ b
one_content told max a b whole held = sym (subst (λ t. MayHold t a) held whole.bytes)

same_contents : (holds : Text → Told) (files : List Wanted) (xs ys : List Text) → AreHeld holds files xs → AreToldWithin holds files ys → xs ≡ ys
same_contents holds [] [] [] h k = refl
same_contents holds [] [] (y ∷ ys) h k = absurd k
same_contents holds [] (x ∷ xs) ys h k = absurd h
same_contents holds (f ∷ fs) [] ys h k = absurd h
same_contents holds (f ∷ fs) (x ∷ xs) [] h k = absurd k
same_contents holds (f ∷ fs) (x ∷ xs) (y ∷ ys) h k =
    let e : x ≡ y = one_content (holds f.name) f.limit x y h.0 k.0 in
    let t : xs ≡ ys = same_contents holds fs xs ys h.1 k.2 in
    rw (e, t) refl

not_longer : (told : Told) (limit : ℕ) (bytes : Text) → IsHeld told bytes → length bytes ≤ limit → MayPass told limit → ⊥
not_longer told limit bytes held bound more = let m : limit < length bytes = subst (λ t. MayPass t limit) held more in absurd (omega (arith, m, bound))

module _ (holds : Text → Told) (steady : Type 0) (long : ℕ) (Cut : Text → Type 0) where
  pub sound_status : (c : Asked) (f : Fault) → IsCauseOf holds steady long Cut c f → AreSound holds steady c → (fault_code f ≡ 3 → ⊥)
      → Contains (0 ∷ 11 ∷ []) (fault_code f)
  sound_status c Usage is sound wrote = absurd is
  sound_status c (Read x) is sound wrote =
      let kept = kept_file holds (files_of c) is.file sound.contents is.reached sound.kept in
      absurd (is.unsteady sound.steady_files kept.bytes (ap holds is.named ∙ kept.held))
  sound_status c Write is sound wrote = absurd (wrote refl)
  sound_status c Memory is sound wrote = (1, omega arith, refl)
  sound_status c (TooLong x) is sound wrote =
      let kept = kept_file holds (files_of c) is.file sound.contents is.reached sound.kept in
      absurd (not_longer (holds x.now) is.file.limit kept.bytes (ap holds is.named ∙ kept.held) kept.bound is.more)
  sound_status c (Refused r) is sound wrote =
      absurd (sound.none r (subst (λ bs. Answers c bs (Err r)) (same_contents holds _ _ _ is.held sound.kept) is.answer))
