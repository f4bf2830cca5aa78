-- A line is judged by what its parts are.
use Rattle.std.proofs.Common.{◌≡◌, ℕ, ℤ, cond, eqb, true, false, List, ◌++◌, Option, Some, None, refl, sym, ap, ◌∙◌, subst, append-nil}
use Rattle.std.specs.List.{before_first, after_first}
use Rattle.std.specs.Option.{option_to_list}
use Rattle.inputs_text.specs.declared.header.Slot.{Slot}
use Rattle.inputs_text.specs.declared.refusal.Rule.{Rule}
use Rattle.inputs_text.specs.declared.refusal.Rule.TheVariants as rule
use Rattle.inputs_text.specs.Lines.{entry_of, is_skipped, line_entry, name_in, numbers_in, words}
use Rattle.inputs_text.specs.Readings.{HasFound, IsJudged, IsLineJudged, JudgesEntry}
use Rattle.inputs_text.specs.Rules.{broken_by_entry, given}

module _ (asked : List (List ℕ × Slot)) (earlier : List (List ℕ × List ℤ)) (line : List ℕ) where
  -- by its entry, where it is not skipped
  by_entry : is_skipped line ≡ false → (e : Option (List ℕ × List ℤ)) → line_entry line ≡ e → (new : List (List ℕ × List ℕ)) (o : Option Rule) → IsJudged asked earlier e new o → IsLineJudged asked earlier line new o
  unfolding given
  by_entry plain e is new o judged =
      let gives : given line ≡ e = ap (λ b. cond b None (line_entry line)) plain ∙ is in
      record {
        broken = judged.broken ∙ sym (ap (λ b. cond b None (broken_by_entry asked earlier (line_entry line))) plain ∙ ap (broken_by_entry asked earlier) is);
        kept = λ none. subst (λ x. HasFound asked (earlier ++ option_to_list x) new) (sym gives) (judged.kept none);
      }

  pub line_skipped : is_skipped line ≡ true → (old : List (List ℕ × List ℕ)) → HasFound asked earlier old → IsLineJudged asked earlier line old None
  unfolding given
  line_skipped skipped old has =
      let gives : given line ≡ None = ap (λ b. cond b None (line_entry line)) skipped in
      record {
        broken = sym (ap (λ b. cond b None (broken_by_entry asked earlier (line_entry line))) skipped);
        kept = λ _. subst (λ x. HasFound asked (earlier ++ option_to_list x) old) (sym gives) (subst (λ es. HasFound asked es old) (sym (append-nil earlier)) has);
      }

  module _ (plain : is_skipped line ≡ false) (left right : List ℕ) (before : left ≡ before_first (λ b. eqb b 61) line) (after : right ≡ after_first (λ b. eqb b 61) line) where
    parts : line_entry line ≡ entry_of (name_in (words left)) (numbers_in (words right))
    unfolding line_entry
    parts = sym (ap (λ l. entry_of (name_in (words l)) (numbers_in (words right))) before ∙ ap (λ r. entry_of (name_in (words (before_first (λ b. eqb b 61) line))) (numbers_in (words r))) after)

    pub line_formless : None ≡ name_in (words left) → (new : List (List ℕ × List ℕ)) → IsLineJudged asked earlier line new (Some rule.Form)
    line_formless none new =
        by_entry plain None (parts ∙ ap (λ n. entry_of n (numbers_in (words right))) (sym none)) new (Some rule.Form) (record { broken = refl; kept = λ e. cc })

    pub line_judged : (name : List ℕ) → Some name ≡ name_in (words left) → (old new : List (List ℕ × List ℕ)) (o : Option Rule) → HasFound asked earlier old
        → JudgesEntry asked name (numbers_in (words right)) old new o → IsLineJudged asked earlier line new o
    line_judged name there old new o has judges =
        by_entry plain (entry_of (Some name) (numbers_in (words right))) (parts ∙ ap (λ n. entry_of n (numbers_in (words right))) (sym there)) new o (judges earlier has)
