-- The lines of a state before the last one: none has a line feed, and none is as the last one.
use Rattle.std.proofs.Common.{◌≡◌, ◌≢◌, ℕ, suc, ◌<◌, ◌^◌, Bool, true, false, Option, Some, None, is_some, List, [], ◌∷◌, ◌++◌, map, length, get_or, codes, decimal, refl, sym, ap, arith, lit<}
use Rattle.std.specs.List.{All}
use Rattle.std.proofs.lemmas.Bool.{false≢true}
use Rattle.std.proofs.lemmas.List.Elements.{All-append, All-nil}
use Rattle.el_base.specs.Words.{is_identifier}
use Rattle.el_base.specs.declared.ty.Ty.{Ty}
use Rattle.net_types.specs.declared.net.Net.{Net}
use Rattle.net_types.specs.declared.net.Port.{Port}
use Rattle.net_types.specs.declared.net.Unit.{Unit as Kind}
use Rattle.net_types.specs.declared.net.Unit.TheVariants.{Lsq, Entry as Start}
use Rattle.net_types.specs.Nets.{kind_of, chan_at}
use Rattle.net_types.specs.Tables.{array_width}
use Rattle.net_check.specs.Checks.{IsChecked}
use Rattle.net_check.specs.Ends.{is_lsq}
use Rattle.net_text.specs.Reads.{lacks}
use Rattle.net_text.proofs.Cuts.{decimal_lacks}
use Rattle.net_text.proofs.Lists.{All_single}
use Rattle.net_text.proofs.Texts.{all-cons, identifier_complete}
use Rattle.lsq_core.specs.declared.entry.Entry.{Entry}
use Rattle.lsq_core.specs.Views.{entry_at}
use Rattle.net_core.specs.Parts.{no_part, noted_outs}
use Rattle.inputs_text.specs.Results.{written}
use Rattle.snapshot.specs.declared.saved.Saved.{Saved}
use Rattle.snapshot.specs.Fits.{ValueFits}
use Rattle.snapshot.specs.Refusals.{MaySave}
use Rattle.snapshot.specs.Texts.{each, words, no_scalar, no_array, flag_lines, value_lines, list_lines, part_lines, entry_line, first_line, made_line, end_line, scalar_lines, fired_lines, chan_lines, fork_lines, queue_lines, array_lines, stray_lines}
use Rattle.snapshot.specs.private.Words.{EntryOf}
use Rattle.snapshot.proofs.FullLines.{IsInner, Inner, inner_each, body}
use Rattle.snapshot.proofs.Keys.{key}
use Rattle.snapshot.proofs.Spelt.{LackAll, lack_more, lack_none, lack_map, words_lack, written_lacks}
use Rattle.snapshot.proofs.Stages1.{zip_at, value_small}
use Rattle.snapshot.proofs.Stages2.{exit_is}
use Rattle.snapshot.proofs.Stages3.{facts_at, entry_lack}
use Rattle.snapshot.proofs.Stages6.{array_at}

-- the names of the header are names
pub record AreNames (net : Net) : Type 0 where
  pub scalars : (j : ℕ) → j < length net.scalars → is_identifier (get_or net.scalars j no_scalar).name ≡ true
  pub arrays : (j : ℕ) → j < length net.arrays → is_identifier (get_or net.arrays j no_array).name ≡ true

inner_line : (w : List ℕ) (ws : List (List ℕ)) → LackAll 10 (w ∷ ws) → key (words (w ∷ ws)) ≢ key end_line → IsInner (words (w ∷ ws))
inner_line w ws h o = record { complete = words_lack 10 (λ e. omega arith) w ws h; other = o }

number_lack : (c : ℕ) (n : ℕ) (ws : List (List ℕ)) → c < 45 → n < 2 ^ 64 → LackAll c ws → LackAll c (decimal n ∷ ws)
number_lack c n ws low small h = lack_more c (decimal n) ws (decimal_lacks c n (omega arith) small) h

module _ (net : Net) (checked : IsChecked net) (names : AreNames net) (thin : (c v : ℕ) → c < length net.chans → v < 2 ^ (chan_at net c).width → v < 2 ^ 64) (few : (u : ℕ) → noted_outs (kind_of net u) < 2 ^ 32) (slim : (x v : ℕ) → v < 2 ^ array_width net.arrays x → v < 2 ^ 64) (s : Saved) (m : MaySave net s) where
  first_inner : IsInner first_line
  first_inner = record { complete = refl; other = λ e. omega arith }

  made_inner : IsInner (made_line s.made)
  made_inner = inner_line (codes "made") _ (lack_more 10 (codes "made") _ refl (number_lack 10 s.made [] (lit< tt) (let z = m.made in omega arith) (lack_none 10))) (λ e. omega arith)

  scalar_inner : (j : ℕ) → j < length net.scalars → Inner (scalar_lines net.scalars s.parts.given.scalars j)
  scalar_inner j l =
      All_single IsInner _ (inner_line (codes "scalar") _ (lack_more 10 (codes "scalar") _ refl (lack_more 10 (get_or net.scalars j no_scalar).name _ (identifier_complete (get_or net.scalars j no_scalar).name (names.scalars j l))
      (lack_more 10 (codes "=") _ refl (lack_more 10 _ [] (written_lacks 10 _ _ (lit< tt) (zip_at net.scalars s.parts.given.scalars j m.fits.stands.fit.scalars l)) (lack_none 10))))) (λ e. omega arith))

  flag_inner : (b : Bool) (u : ℕ) → u < length net.units → Inner (flag_lines u b)
  flag_inner false u l = All-nil IsInner
  flag_inner true u l = All_single IsInner _ (inner_line (codes "fired") _ (lack_more 10 (codes "fired") _ refl (number_lack 10 u [] (lit< tt) (let n = checked.numbered.units in omega arith) (lack_none 10))) (λ e. omega arith))

  list_inner : (word : List ℕ) (i : ℕ) (vs : List ℕ) → lacks 10 word ≡ true → i < 2 ^ 64 → All (λ v. v < 2 ^ 64) vs → ((w : List ℕ) (ws : List (List ℕ)) → key (words (word ∷ w ∷ ws)) ≢ key end_line) → Inner (list_lines word i vs)
  list_inner word i [] a b c o = All-nil IsInner
  list_inner word i (v ∷ vs) a b c o =
      All_single IsInner _ (inner_line word _ (lack_more 10 word _ a (number_lack 10 i _ (lit< tt) b (lack_map 10 (λ v. v < 2 ^ 64) decimal (λ v f. decimal_lacks 10 v (lit< tt) f) (v ∷ vs) c))) (o (decimal i) (map decimal (v ∷ vs))))

  stray_inner : (j : ℕ) → j < length net.arrays → Inner (stray_lines net.arrays s.parts.strays j)
  stray_inner j l =
      All_single IsInner _ (inner_line (codes "stray") _ (lack_more 10 (codes "stray") _ refl (lack_more 10 (get_or net.arrays j no_array).name _ (identifier_complete (get_or net.arrays j no_array).name (names.arrays j l))
      (number_lack 10 _ [] (lit< tt) (let z = m.fits.strays j in omega arith) (lack_none 10)))) (λ e. omega arith))

  array_inner : (j : ℕ) → j < length net.arrays → Inner (array_lines net.arrays s.parts.given.arrays j)
  array_inner j l =
      let h = array_at net.arrays s.parts.given.arrays j m.fits.stands.fit.arrays l in
      All_single IsInner _ (inner_line (codes "array") _ (lack_more 10 (codes "array") _ refl (lack_more 10 (get_or net.arrays j no_array).name _ (identifier_complete (get_or net.arrays j no_array).name (names.arrays j l))
      (lack_more 10 (codes "=") _ refl (lack_map 10 _ (written (get_or net.arrays j no_array).ty) (λ v f. written_lacks 10 _ v (lit< tt) f) _ h.patterns)))) (λ e. omega arith))

  value_inner : (o : Option Ty) (b : Bool) (p : Option ℕ) → ValueFits o b p → Inner (value_lines p)
  value_inner o b None f = All-nil IsInner
  value_inner None b (Some v) f = absurd (let z = ap is_some f in false≢true (sym z))
  value_inner (Some ty) false (Some v) f = absurd (let z = ap is_some f in false≢true (sym z))
  value_inner (Some ty) true (Some v) f =
      All_single IsInner _ (inner_line (codes "value") _ (lack_more 10 (codes "value") _ refl (number_lack 10 v [] (lit< tt) (value_small (Some ty) v f) (lack_none 10))) (λ e. omega arith))

  all_small : (P : ℕ → Type 0) (vs : List ℕ) → ((v : ℕ) → P v → v < 2 ^ 64) → All P vs → All (λ v. v < 2 ^ 64) vs
  all_small P vs f h = λ k d l. f _ (h k d l)

  chan_inner : (c : ℕ) → c < length net.chans → Inner (chan_lines s.parts.tokens c)
  chan_inner c l =
      list_inner (codes "chan") c (get_or s.parts.tokens c []) refl (let n = checked.numbered.chans in omega arith)
      (all_small (λ v. v < 2 ^ (chan_at net c).width) _ (λ v f. thin c v l f) (m.fits.tokens c)) (λ w ws e. omega arith)

  fork_inner : (u : ℕ) → u < length net.units → Inner (fork_lines s.parts.sent u)
  fork_inner u l =
      list_inner (codes "fork") u (get_or s.parts.sent u []) refl (let n = checked.numbered.units in omega arith)
      (all_small (λ j. j < noted_outs (kind_of net u)) _ (λ v f. (let z = few u in omega arith)) (m.fits.by_unit.within u)) (λ w ws e. omega arith)

  entry_inner : (k : Kind) (x : Entry) → ((b d : ℕ) (ps : List Port) (gs : List (List ℕ)) (f : Bool) → k ≡ Lsq b d ps gs f → length ps < 2 ^ 32) → EntryOf net k x → IsInner (entry_line x)
  entry_inner (Lsq b d ps gs f) x ports h =
      inner_line (codes "entry") _ (entry_lack (array_width net.arrays b) (slim b) ps (ports b d ps gs f refl) 10 refl (lit< tt) x h) (λ e. omega arith)
  entry_inner Start x ports h = absurd h
  entry_inner k x ports h = absurd h

  entries_inner : (k : Kind) (xs : List Entry) → ((b d : ℕ) (ps : List Port) (gs : List (List ℕ)) (f : Bool) → k ≡ Lsq b d ps gs f → length ps < 2 ^ 32) → ((i : ℕ) → i < length xs → EntryOf net k (entry_at xs i)) → Inner (map entry_line xs)
  entries_inner k [] ports h = All-nil IsInner
  entries_inner k (x ∷ xs) ports h = all-cons IsInner (entry_line x) (map entry_line xs) (entry_inner k x ports (h 0 (omega arith))) (entries_inner k xs ports (λ i l. h (suc i) (omega arith)))

  part_inner : (b : Bool) (u : ℕ) → is_lsq (kind_of net u) ≡ b → u < length net.units → Inner (part_lines b u (get_or s.parts.queues u no_part))
  part_inner false u is l = All-nil IsInner
  part_inner true u is l =
      let f = facts_at net s u m l is in
      all-cons IsInner _ _
      (inner_line (codes "queue") _ (lack_more 10 (codes "queue") _ refl (number_lack 10 u _ (lit< tt) (let n = checked.numbered.units in omega arith) (number_lack 10 (get_or s.parts.queues u no_part).next [] (lit< tt) (let z = f.next in omega arith) (lack_none 10)))) (λ e. omega arith))
      (entries_inner (kind_of net u) (get_or s.parts.queues u no_part).entries (λ b d ps gs g k. checked.numbered.ports u b d ps gs g k) f.each_one)

  join : (xs ys : List (List ℕ)) → Inner xs → Inner ys → Inner (xs ++ ys)
  join xs ys a b = All-append IsInner xs ys a b

  abbrev scalar_part : List (List ℕ)
  scalar_part = each (scalar_lines net.scalars s.parts.given.scalars) 0 (length net.scalars)

  abbrev fired_part : List (List ℕ)
  fired_part = each (fired_lines s.parts.fired) 0 (length net.units)

  abbrev chan_part : List (List ℕ)
  chan_part = each (chan_lines s.parts.tokens) 0 (length net.chans)

  abbrev fork_part : List (List ℕ)
  fork_part = each (fork_lines s.parts.sent) 0 (length net.units)

  abbrev queue_part : List (List ℕ)
  queue_part = each (queue_lines (kind_of net) s.parts.queues) 0 (length net.units)

  abbrev array_part : List (List ℕ)
  array_part = each (array_lines net.arrays s.parts.given.arrays) 0 (length net.arrays)

  abbrev stray_part : List (List ℕ)
  stray_part = each (stray_lines net.arrays s.parts.strays) 0 (length net.arrays)

  pub inner_body : Inner (body net s)
  inner_body =
      let g : Inner (array_part ++ stray_part) = join array_part stray_part (inner_each (array_lines net.arrays s.parts.given.arrays) 0 (length net.arrays) (λ j a b. array_inner j (omega arith)))
      (inner_each (stray_lines net.arrays s.parts.strays) 0 (length net.arrays) (λ j a b. stray_inner j (omega arith))) in
      let f : Inner (queue_part ++ (array_part ++ stray_part)) = join queue_part (array_part ++ stray_part)
      (inner_each (queue_lines (kind_of net) s.parts.queues) 0 (length net.units) (λ j a b. part_inner (is_lsq (kind_of net j)) j refl (omega arith))) g in
      let e : Inner (fork_part ++ (queue_part ++ (array_part ++ stray_part))) = join fork_part (queue_part ++ (array_part ++ stray_part)) (inner_each (fork_lines s.parts.sent) 0 (length net.units) (λ j a b. fork_inner j (omega arith))) f in
      let d : Inner (chan_part ++ (fork_part ++ (queue_part ++ (array_part ++ stray_part)))) =
      join chan_part (fork_part ++ (queue_part ++ (array_part ++ stray_part))) (inner_each (chan_lines s.parts.tokens) 0 (length net.chans) (λ j a b. chan_inner j (omega arith))) e in
      let c : Inner (value_lines s.parts.value ++ (chan_part ++ (fork_part ++ (queue_part ++ (array_part ++ stray_part))))) =
      join (value_lines s.parts.value) (chan_part ++ (fork_part ++ (queue_part ++ (array_part ++ stray_part))))
      (value_inner net.result (get_or s.parts.fired checked.one_exit.unit false) s.parts.value (m.fits.value checked.one_exit.unit (exit_is (kind_of net checked.one_exit.unit) checked.one_exit.here))) d in
      let b : Inner (fired_part ++ (value_lines s.parts.value ++ (chan_part ++ (fork_part ++ (queue_part ++ (array_part ++ stray_part)))))) =
      join fired_part (value_lines s.parts.value ++ (chan_part ++ (fork_part ++ (queue_part ++ (array_part ++ stray_part)))))
      (inner_each (fired_lines s.parts.fired) 0 (length net.units) (λ j x y. flag_inner (get_or s.parts.fired j false) j (omega arith))) c in
      let a : Inner (scalar_part ++ (fired_part ++ (value_lines s.parts.value ++ (chan_part ++ (fork_part ++ (queue_part ++ (array_part ++ stray_part))))))) =
      join scalar_part (fired_part ++ (value_lines s.parts.value ++ (chan_part ++ (fork_part ++ (queue_part ++ (array_part ++ stray_part))))))
      (inner_each (scalar_lines net.scalars s.parts.given.scalars) 0 (length net.scalars) (λ j x y. scalar_inner j (omega arith))) b in
      all-cons IsInner first_line (made_line s.made ∷ (scalar_part ++ (fired_part ++ (value_lines s.parts.value ++ (chan_part ++ (fork_part ++ (queue_part ++ (array_part ++ stray_part)))))))) first_inner
      (all-cons IsInner (made_line s.made) (scalar_part ++ (fired_part ++ (value_lines s.parts.value ++ (chan_part ++ (fork_part ++ (queue_part ++ (array_part ++ stray_part))))))) made_inner a)
