-- Files that are read in order.
use Rattle.std.proofs.Common.{◌≡◌, ℕ, ◌+◌, ◌<◌, List, [], ◌∷◌, ◌++◌, length, take, map, get_or, sym, ◌∙◌, ap, subst, arith}
use Rattle.std.specs.declared.vec.Vec.{Vec}
use Rattle.std.specs.declared.alloc.Global.{Global}
use Rattle.std.proofs.lemmas.List.{take_more, map-append, take-map, get_or-map, length-map}
use Rattle.el_io.specs.Outside.{Told, IsWhole, MayPass}
use Rattle.command_words.specs.Tables.{Text}
use Rattle.elastic_top.specs.Files.{Wanted}
use Rattle.elastic_top.specs.declared.reading.File.{File}
use Rattle.elastic_top.specs.declared.fault.Fault.{Fault}
use Rattle.elastic_top.specs.declared.fault.Fault.TheVariants.{Usage, Read, Write, Memory, TooLong, Refused}
use Rattle.elastic_top.specs.Reading.{contents_of, file_of, AreHeld, IsReached, EndsReading, IsFileFault}

held_on : (holds : Text → Told) (files : List Wanted) (contents : List Text) (file : Wanted) (bytes : Text) → AreHeld holds files contents
    → IsWhole (holds file.name) file.limit bytes → AreHeld holds (files ++ file ∷ []) (contents ++ bytes ∷ [])
held_on holds [] [] file bytes before now = (now, tt)
held_on holds [] (b ∷ bs) file bytes before now = absurd before
held_on holds (f ∷ fs) [] file bytes before now = absurd before
held_on holds (f ∷ fs) (b ∷ bs) file bytes before now = (before.0, held_on holds fs bs file bytes before.1 now)

-- one file more was read
pub held_more : (holds later : Text → Told) (plan : List File) (i : ℕ) (file : File) (contents more : List (Vec ℕ Global)) (bytes : Vec ℕ Global)
    → AreHeld holds (map file_of (take i plan)) (contents_of contents) → ((n : Text) → later n ≡ holds n)
    → IsWhole (later file.name.now) file.limit bytes.items → i < length plan → file ≡ get_or plan i file → more ≡ contents ++ bytes ∷ []
    → AreHeld holds (map file_of (take (i + 1) plan)) (contents_of more)
held_more holds later plan i file contents more bytes before same now within is grown =
    subst (λ fs. AreHeld holds fs (contents_of more))
    (sym (ap (map file_of) (take_more plan i file within ∙ ap (λ f. take i plan ++ f ∷ []) (sym is)) ∙ map-append file_of (take i plan) (file ∷ [])))
    (subst (AreHeld holds (map file_of (take i plan) ++ file_of file ∷ []))
    (sym (ap contents_of grown ∙ map-append (λ b. b.items) contents (bytes ∷ [])))
    (held_on holds (map file_of (take i plan)) (contents_of contents) (file_of file) bytes.items before
    (subst (λ told. IsWhole told file.limit bytes.items) (same file.name.now) now)))

-- the file at this place is reached
reached : (holds : Text → Told) (plan : List File) (i : ℕ) (file : File) (contents : List Text)
    → AreHeld holds (map file_of (take i plan)) contents → i < length plan → file ≡ get_or plan i file → IsReached holds (map file_of plan) (file_of file)
reached holds plan i file contents held within is = record {
  place = i;
  within = omega (arith, within, length-map plan file_of);
  here = ap file_of is ∙ sym (get_or-map file_of plan i file (file_of file) within);
  contents = contents;
  read = subst (λ fs. AreHeld holds fs contents) (sym (take-map file_of i plan)) held;
}

-- the fault of one file ends the reading of all
pub ends : (holds later : Text → Told) (steady steady' : Type 0) (long : ℕ) (plan : List File) (i : ℕ) (file : File) (contents : List Text) (f : Fault)
    → AreHeld holds (map file_of (take i plan)) contents → ((n : Text) → later n ≡ holds n) → (steady → steady')
    → IsFileFault (later file.name.now) steady' long (file_of file) f → i < length plan → file ≡ get_or plan i file
    → EndsReading holds steady long (map file_of plan) f
ends holds later steady steady' long plan i file contents (Read name) held same firm is within at = record {
  file = file_of file;
  reached = reached holds plan i file contents held within at;
  named = is.0;
  unsteady = λ s bytes told. is.1 (firm s) bytes (same file.name.now ∙ ap holds (sym is.0) ∙ told);
}
ends holds later steady steady' long plan i file contents (TooLong name) held same firm is within at = record {
  file = file_of file;
  reached = reached holds plan i file contents held within at;
  named = is.0;
  more = subst (λ told. MayPass told file.limit) (same file.name.now ∙ ap holds (sym is.0)) is.1;
  noted = is.2;
}
ends holds later steady steady' long plan i file contents Memory held same firm is within at = tt
ends holds later steady steady' long plan i file contents Usage held same firm is within at = absurd is
ends holds later steady steady' long plan i file contents Write held same firm is within at = absurd is
ends holds later steady steady' long plan i file contents (Refused refusal) held same firm is within at = absurd is
