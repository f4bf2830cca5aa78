-- Ends of a process that `top` does not answer: want of memory for the words, and no words at all.
use Rattle.std.proofs.Common.{◌≡◌, ◌⊎◌, ℕ, List, [], ◌∷◌, inl, inr, refl, sym, ◌∙◌, ap, subst, arith, Contains}
use Rattle.std.specs.Prelude.{Result, Ok, Err, IfOk, IfErr}
use Rattle.std.specs.declared.io.Error.{Error}
use Rattle.command_words.specs.Tables.{Text}
use Rattle.elastic_top.specs.Ends.{FilesMembers, SinkMembers, Tells, CallEnds, WordlessEnds}
use Rattle.elastic_top.specs.Faults.{fault_code, fault_line, memory_line}
use Rattle.elastic_top.specs.Statuses.{statuses, statuses_of}
use Rattle.elastic_top.specs.Words.{IsErrorFault}
use Rattle.elastic_top.specs.declared.fault.Fault.{Fault}
use Rattle.elastic_top.proofs.CallLemmas.{outside}

-- what `top` says of its status it says of an equal exit code
pub answered_ends : {F O E : Type 0} {words words' : List Text} {code code' : ℕ}
    {f : FilesMembers F} {files files' : F} {o : SinkMembers O} {out out' : O} {e : SinkMembers E} {err err' : E}
    → words ≡ words' → code' ≡ code → CallEnds words code f files files' o out out' e err err' → CallEnds words' code' f files files' o out out' e err err'
answered_ends {words = words} {code' = code'} {f} {files} {files'} {o} {out} {out'} {e} {err} {err'} same is ends =
    subst (λ w. CallEnds w code' f files files' o out out' e err err') same (subst (λ n. CallEnds words n f files files' o out out' e err err') (sym is) ends)

-- want of memory, before a file is read or a byte is written, is an end of the call of any words
pub wanting_ends : {F O E : Type 0} (words : List Text) (code : ℕ)
    (f : FilesMembers F) (files : F) (o : SinkMembers O) (out : O) (e : SinkMembers E) (err err' : E)
    → code ≡ 11 → Tells e err err' memory_line → CallEnds words code f files files o out out e err err'
wanting_ends words code f files o out e err err' is told = record {
  usage = λ not c spells. absurd (omega (arith, is, not));
  no_command = λ none. subst (Contains (1 ∷ 11 ∷ [])) (sym is) (1, omega arith, refl);
  statuses = λ c spells. subst (Contains (statuses_of c.verb)) (sym is) (outside c.verb).memory;
  codes = subst (Contains statuses) (sym is) (11, omega arith, refl);
  unread_files = λ not. refl;
  read = λ not. absurd (omega (arith, is, not));
  unread = λ not c spells. absurd (omega (arith, is, not));
  long = λ not. absurd (omega (arith, is, not));
  long_file = λ not c spells. absurd (omega (arith, is, not));
  long_always = λ more. absurd (omega (arith, more));
  done = λ not c spells. absurd (omega (arith, is, not));
  write = λ not. absurd (omega (arith, is, not));
  cut = λ not c spells. absurd (omega (arith, is, not));
  out_same = λ some some_more. refl;
  refused = λ own c spells. absurd (own.4 is);
  complete = λ c spells sound quiet. subst (Contains (0 ∷ 11 ∷ [])) (sym is) (1, omega arith, refl);
  err_same = λ not. absurd (omega (arith, is, not));
  err_usage = λ not. absurd (omega (arith, is, not));
  err_write = λ not. absurd (omega (arith, is, not));
  err_memory = λ not. told;
}

-- a fault for the host's error is told and has its status
pub wordless_ends : (error : Error) (fault : Fault) (code : ℕ) (Told : Text → Type 0)
    → IsErrorFault error fault → Told (fault_line fault) → code ≡ fault_code fault → WordlessEnds error code Told
wordless_ends error fault code Told (inl (kind, is)) told same = inl (kind, same ∙ ap fault_code is, subst (λ x. Told (fault_line x)) is told)
wordless_ends error fault code Told (inr (kind, is)) told same = inr (kind, same ∙ ap fault_code is, subst (λ x. Told (fault_line x)) is told)

-- and one of the statuses
pub wordless_code : {A B C D : Type 0} (code : ℕ) → (A × (code ≡ 11) × B) ⊎ (C × (code ≡ 1) × D) → Contains statuses code
wordless_code code (inl (kind, is, told)) = subst (Contains statuses) (sym is) (11, omega arith, refl)
wordless_code code (inr (kind, is, told)) = subst (Contains statuses) (sym is) (1, omega arith, refl)

-- a status that is listed with words and without is listed
pub any_code : {A E : Type 0} (args : Result A E) (code : ℕ) (Ends : A → Type 0) (Wordless : E → Type 0)
    → ((all : A) → Ends all → Contains statuses code) → ((error : E) → Wordless error → Contains statuses code)
    → IfOk args Ends → IfErr args Wordless → Contains statuses code
any_code (Ok all) code Ends Wordless listed wordless ends none = listed all ends
any_code (Err error) code Ends Wordless listed wordless ends none = wordless error none
