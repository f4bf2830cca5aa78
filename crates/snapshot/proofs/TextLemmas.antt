-- The words of a line, the draft before the first line, and what an answer at the end says.
use Rattle.std.proofs.Common.{◌≡◌, ◌≢◌, ◌⊎◌, inl, inr, ℕ, List, ◌==◌, Bool, true, false, Result, Ok, Err, sym, ap, subst, ◌∙◌}
use Rattle.std.specs.List.{slice_split}
use Rattle.std.proofs.lemmas.List.Splits.{join_with_byte-slice_split}
use Rattle.std.proofs.lemmas.Bool.{false≢true}
use Rattle.net_types.specs.declared.net.Net.{Net}
use Rattle.net_check.specs.Checks.{IsChecked}
use Rattle.net_text.specs.Fits.{HeaderFits}
use Rattle.snapshot.specs.declared.draft.Draft.{Draft}
use Rattle.snapshot.specs.declared.draft.Stage.{Stage}
use Rattle.snapshot.specs.declared.draft.Stage.TheVariants.{First}
use Rattle.snapshot.specs.declared.refusal.SnapRefusal.{SnapRefusal}
use Rattle.snapshot.specs.declared.refusal.SnapRefusal.TheVariants as refusal
use Rattle.snapshot.specs.declared.saved.Saved.{Saved}
use Rattle.snapshot.specs.Laws.{SnapshotsHaveOneAnswer, TextsSpellOneState}
use Rattle.snapshot.specs.Refusals.{MaySave, Says, IsOnly}
use Rattle.snapshot.specs.Texts.{words, no_array, no_scalar}
use Rattle.snapshot.specs.private.Words.{AreWords}
use Rattle.snapshot.specs.private.Drafts.{SaysOfLine, IsBlank, IsOneIn, Refuses, Stands, Taken, blank_parts, line_of_words}
use Rattle.snapshot.proofs.Blanks.{blank_may, blank_is}
use Rattle.snapshot.proofs.FullLines.{all_complete, whole_once}
use Rattle.snapshot.proofs.InnerLines.{AreNames, inner_body}
use Rattle.snapshot.proofs.OneTexts.{is_one}
use Rattle.snapshot.proofs.OnlyAnswers.{only_answer}
use Rattle.snapshot.proofs.Slims.{chan_thin, array_thin, few_outs}

-- the words between its spaces make a line
pub line_words : (line : List ℕ) (ws : List (List ℕ)) → ws ≡ slice_split (λ b. b == 32) line → words ws ≡ line
line_words line ws e = ap words e ∙ join_with_byte-slice_split 32 line

pub are_words : (line : List ℕ) (ws : List (List ℕ)) → ws ≡ slice_split (λ b. b == 32) line → AreWords ws
are_words line ws e = e ∙ ap (slice_split (λ b. b == 32)) (sym (line_words line ws e))

-- an answer to the words is one to the line
pub line_refused : (net : Net) (P : Saved → Type 0) (f : Saved → List (List ℕ)) (line : List ℕ) (ws : List (List ℕ)) (t : Bool) (new : Draft) → ws ≡ slice_split (λ b. b == 32) line → t ≡ false → SaysOfLine net P f (line_of_words ws) t new → Refuses net P f line
line_refused net P f line ws true new e is a = absurd (false≢true (sym is))
line_refused net P f line ws false new e is a = subst (Refuses net P f) (line_words line ws e) a

pub line_taken : (net : Net) (P : Saved → Type 0) (f : Saved → List (List ℕ)) (line : List ℕ) (ws : List (List ℕ)) (t : Bool) (new : Draft) → ws ≡ slice_split (λ b. b == 32) line → t ≡ true → SaysOfLine net P f (line_of_words ws) t new → Taken net P f line new
line_taken net P f line ws true new e is a = subst (λ l. Taken net P f l new) (line_words line ws e) a
line_taken net P f line ws false new e is a = absurd (false≢true is)

-- the draft before the first line stands
pub blank_stands : (net : Net) → IsChecked net → (d : Draft) → d.stage ≡ First → d.saved ≡ record { made = 0; parts = blank_parts net } → Stands net d
blank_stands net checked d e f = record {
  may = subst (MaySave net) (sym f) (blank_may net checked);
  blank = subst (λ (s : Stage). IsBlank net s d.saved) (sym e) (subst (λ (x : Saved). IsBlank net First x) (sym f) (blank_is net));
}

-- the answer to a text is the only one
pub only_of : (net : Net) → IsChecked net → AreNames net → (bytes : List ℕ) (r : Result Saved SnapRefusal) → Says net bytes r → IsOneIn net r → IsOnly net bytes r
only_of net checked names bytes r says one =
    let inner = λ (s : Saved) (m : MaySave net s). inner_body net checked names (chan_thin net checked) (few_outs net checked) (array_thin net) s m in
    only_answer net (all_complete net inner) (whole_once net inner) bytes r says one

-- ---- a text is that of one state

names_of : (net : Net) → HeaderFits net → AreNames net
names_of net h = record { scalars = λ j l. h.scalars j no_scalar l; arrays = λ j l. (h.arrays j no_array l).name }

one_in : (net : Net) → IsChecked net → (bytes : List ℕ) (r : Result Saved SnapRefusal) → Says net bytes r → IsOneIn net r
one_in net checked bytes (Ok s) says = is_one net checked s says.0
one_in net checked bytes (Err e) says = tt

pub snapshots_have_one_answer : SnapshotsHaveOneAnswer
snapshots_have_one_answer net bytes r checked header says = only_of net checked (names_of net header) bytes r says (one_in net checked bytes r says)

abbrev saved_or : Saved → Result Saved SnapRefusal → Saved
saved_or s (Ok t) = t
saved_or s (Err e) = s

abbrev is_saved : Result Saved SnapRefusal → Bool
is_saved (Ok s) = true
is_saved (Err e) = false

pub texts_spell_one_state : TextsSpellOneState
texts_spell_one_state net s t bytes checked header m k a b =
    by (snapshots_have_one_answer net bytes (Ok s) checked header (m, a) (Ok t) (λ e. false≢true (sym (ap is_saved e))) (k, b))
  where
    by : ◌≡◌ {A = Result Saved SnapRefusal} (Ok s) (Ok t) ⊎ ◌≡◌ {A = Result Saved SnapRefusal} (Ok s) (Err refusal.Memory) → s ≡ t
    by (inl e) = ap (saved_or s) e
    by (inr e) = absurd (false≢true (sym (ap is_saved e)))
