-- The lines of queues and entries: what each makes of the draft, and when it may not be next.
use Rattle.std.proofs.Common.{◌≡◌, ◌⊎◌, ℕ, zero, suc, ◌+◌, ◌-◌, ◌<◌, ◌≤◌, ◌^◌, true, false, List, [], ◌∷◌, ◌++◌, map, length, get_or, set, codes, decimal, refl, sym, ap, subst, ◌∙◌, inl, inr, arith, lit<, append_assoc, get_or-set_same, get_or-set_other}
use Rattle.std.proofs.lemmas.Bool.{cases_lt}
use Rattle.std.proofs.lemmas.Fmt.{decimal_injective}
use Rattle.net_types.specs.declared.net.Net.{Net}
use Rattle.net_types.specs.Nets.{kind_of}
use Rattle.net_check.specs.Checks.{IsChecked}
use Rattle.net_check.specs.Ends.{is_lsq}
use Rattle.net_text.proofs.Cuts.{decimal_lacks}
use Rattle.lsq_core.specs.declared.part.QueuePart.{QueuePart}
use Rattle.net_core.specs.Parts.{no_part}
use Rattle.snapshot.specs.declared.draft.Stage.TheVariants.{Opened}
use Rattle.snapshot.specs.declared.saved.Saved.{Saved}
use Rattle.snapshot.specs.Fits.{Fits, max_count}
use Rattle.snapshot.specs.Refusals.{MaySave}
use Rattle.snapshot.specs.Texts.{each, words, entry_line, part_lines, queue_lines, array_lines, from_arrays, from_strays}
use Rattle.snapshot.specs.private.Words.{AreWords, queue_words}
use Rattle.snapshot.specs.private.Drafts.{AgreeBelow, ToForks, ToQueues, ToArrays, at_queues, at_entries, at_arrays, entries_of, Taken, Refuses}
use Rattle.snapshot.proofs.Agrees.{each_unroll, each_none}
use Rattle.snapshot.proofs.Frames.{fits_queue}
use Rattle.snapshot.proofs.Spelt.{LackAll, lack_more, lack_none, same_words}
use Rattle.snapshot.proofs.Stages1.{Passes, first_of, each_start}
use Rattle.snapshot.proofs.Stages3.{QueueFacts, made_at}

-- the same data of another state, in the words of a place before the queues
pub forks_like : (net : Net) (u : ℕ) (d e s : Saved) → ToForks net u d s → e.made ≡ d.made → e.parts.given.scalars ≡ d.parts.given.scalars → e.parts.fired ≡ d.parts.fired → e.parts.value ≡ d.parts.value
    → e.parts.tokens ≡ d.parts.tokens → e.parts.sent ≡ d.parts.sent → ToForks net u e s
forks_like net u d e s t m sc f v k b = record {
  before = record {
    before = record { before = record { made = t.before.before.before.made ∙ sym m; scalars = subst (AgreeBelow 0 (length net.scalars) s.parts.given.scalars) (sym sc) t.before.before.before.scalars }; fired = subst (AgreeBelow false (length net.units) s.parts.fired) (sym f) t.before.before.fired };
    value = t.before.value ∙ sym v;
    tokens = subst (AgreeBelow [] (length net.chans) s.parts.tokens) (sym k) t.before.tokens;
  };
  sent = subst (AgreeBelow [] u s.parts.sent) (sym b) t.sent;
}

module _ (net : Net) (checked : IsChecked net) (ws : List (List ℕ)) (a : AreWords ws) where
  unit_small : (u : ℕ) → u < length net.units → u < 2 ^ 64
  unit_small u w = let n = checked.numbered.units in omega arith

  -- units that are no queues have no lines
  none_between : (s : Saved) (i d m : ℕ) → ((j : ℕ) → i ≤ j → j < i + d → is_lsq (kind_of net j) ≡ false) → each (queue_lines (kind_of net) s.parts.queues) i (d + m) ≡ each (queue_lines (kind_of net) s.parts.queues) (i + d) m
  none_between s i zero m h = let e : 0 + m ≡ m = omega arith in let z : i ≡ i + 0 = omega arith in ap (each (queue_lines (kind_of net) s.parts.queues) i) e ∙ ap (λ k. each (queue_lines (kind_of net) s.parts.queues) k m) z
  none_between s i (suc d) m h =
      let e : suc d + m ≡ suc (d + m) = omega arith in
      let z : suc i + d ≡ i + suc d = omega arith in
      ap (each (queue_lines (kind_of net) s.parts.queues) i) e ∙ ap (λ b. part_lines b i (get_or s.parts.queues i no_part) ++ each (queue_lines (kind_of net) s.parts.queues) (suc i) (d + m)) (h i (omega arith) (omega arith))
      ∙ none_between s (suc i) d m (λ j low high. h j (omega arith) (omega arith)) ∙ ap (λ k. each (queue_lines (kind_of net) s.parts.queues) k m) z

  skip_to : (s : Saved) (i k : ℕ) → i ≤ k → k ≤ length net.units → ((j : ℕ) → i ≤ j → j < k → is_lsq (kind_of net j) ≡ false)
      → each (queue_lines (kind_of net) s.parts.queues) i (length net.units - i) ≡ each (queue_lines (kind_of net) s.parts.queues) k (length net.units - k)
  skip_to s i k low high h =
      let e : length net.units - i ≡ (k - i) + (length net.units - k) = omega arith in
      let z : i + (k - i) ≡ k = omega arith in
      ap (each (queue_lines (kind_of net) s.parts.queues) i) e ∙ none_between s i (k - i) (length net.units - k) (λ j c d. h j c (omega arith)) ∙ ap (λ x. each (queue_lines (kind_of net) s.parts.queues) x (length net.units - k)) z

  -- and states that may be saved have the same queues there
  agree_to : (d s : Saved) → MaySave net d → MaySave net s → (i k : ℕ) → AgreeBelow no_part i s.parts.queues d.parts.queues → ((j : ℕ) → i ≤ j → j < k → is_lsq (kind_of net j) ≡ false) → AgreeBelow no_part k s.parts.queues d.parts.queues
  agree_to d s m k i n t h j low = by (cases_lt j i)
    where
      by : (j < i) ⊎ (i ≤ j) → get_or s.parts.queues j no_part ≡ get_or d.parts.queues j no_part
      by (inl l) = t j l
      by (inr l) = k.fits.by_unit.queues j (h j l low) ∙ sym (m.fits.by_unit.queues j (h j l low))

  -- no queue is left
  pub queues_pass : (from : ℕ) (d : Saved) → MaySave net d → from ≤ length net.units → ((j : ℕ) → from ≤ j → j < length net.units → is_lsq (kind_of net j) ≡ false)
      → Passes net (ToQueues net from d) (at_queues net from) (words ws) (ToArrays net 0 d) (at_arrays net 0)
  queues_pass from d m low none = record {
    forth = λ s k t more e. record { before = record { before = t.before; queues = agree_to d s m k from (length net.units) t.queues none }; arrays = λ i l. absurd (omega arith) };
    back = λ s k t. (
      record { before = t.before.before; queues = λ j l. t.before.queues j (omega arith) },
      ap (λ ls. ls ++ from_arrays net s.parts) (skip_to s from (length net.units) low (omega arith) none ∙ each_none (queue_lines (kind_of net) s.parts.queues) (length net.units) (length net.units) (omega arith))
          ∙ ap (λ ls. ls ++ from_strays net s.parts) (sym (each_start (array_lines net.arrays s.parts.given.arrays) (length net.arrays))),
    );
  }

  -- the next queue
  module _ (from u : ℕ) (low : from ≤ u) (high : u < length net.units) (queue : is_lsq (kind_of net u) ≡ true) (none : (j : ℕ) → from ≤ j → j < u → is_lsq (kind_of net j) ≡ false) where
    next_of : Saved → ℕ
    next_of s = (get_or s.parts.queues u no_part).next

    queue_lack : (n : ℕ) → n ≤ max_count → LackAll 32 (queue_words u n)
    queue_lack n small = lack_more 32 (codes "queue") _ refl (lack_more 32 (decimal u) _ (decimal_lacks 32 u (lit< tt) (unit_small u high)) (lack_more 32 (decimal n) [] (decimal_lacks 32 n (lit< tt) (omega arith)) (lack_none 32)))

    queues_are : (s : Saved) → at_queues net from s ≡ words (queue_words u (get_or s.parts.queues u no_part).next) ∷ at_entries net u 0 s
    queues_are s =
        ap (λ ls. ls ++ from_arrays net s.parts) (
        skip_to s from u low (omega arith) none ∙ each_unroll (queue_lines (kind_of net) s.parts.queues) u (length net.units) high
        ∙ ap (λ b. part_lines b u (get_or s.parts.queues u no_part) ++ each (queue_lines (kind_of net) s.parts.queues) (u + 1) (length net.units - (u + 1))) queue
        )
        ∙ append_assoc (words (queue_words u (get_or s.parts.queues u no_part).next) ∷ map entry_line (entries_of s u)) (each (queue_lines (kind_of net) s.parts.queues) (u + 1) (length net.units - (u + 1))) (from_arrays net s.parts)

    queue_is : (s : Saved) → MaySave net s → (more : List (List ℕ)) → at_queues net from s ≡ words ws ∷ more → queue_words u (get_or s.parts.queues u no_part).next ≡ ws
    queue_is s m more e = same_words (codes "queue") _ ws (queue_lack _ (m.fits.serials u)) a (first_of _ _ (words ws) more (sym (queues_are s) ∙ e))

    pub queue_refused : (d : Saved) → ((n : ℕ) → n ≤ max_count → queue_words u n ≡ ws → ⊥) → Refuses net (ToQueues net from d) (at_queues net from) (words ws)
    queue_refused d never s m t more e = never _ (m.fits.serials u) (queue_is s m more e)

    pub queue_taken : (d : Saved) (n : ℕ) (qs : List QueuePart) → MaySave net d → n ≤ max_count → queue_words u n ≡ ws → qs ≡ set d.parts.queues u (record { next = n; entries = [] })
        → Taken net (ToQueues net from d) (at_queues net from) (words ws) (record { stage = Opened u; saved = record d { parts = record d.parts { queues = qs } } })
    queue_taken d n qs m small e new = record {
      stands = record {
        may = record { made = m.made; fits = subst (λ (l : List QueuePart). Fits net (record d.parts { queues = l })) (sym new) (fits_queue net d.parts u part m.fits high (made_at net u part queue empty) small) };
        blank = record { at = record { within = high; queue = queue }; none = ap (λ (l : List QueuePart). (get_or l u no_part).entries) new ∙ ap (λ (q : QueuePart). q.entries) here };
      };
      takes = record {
        forth = λ s k t more is. record {
          before = record { before = forks_like net _ d (after) s t.before refl refl refl refl refl refl; queues = λ j l. agree_to d s m k from u t.queues none j l ∙ sym (other j (λ z. omega arith)) };
          next = next_is s k more is ∙ sym (ap (λ (q : QueuePart). q.next) (ap (λ (l : List QueuePart). get_or l u no_part) new ∙ here));
        };
        back = λ s k t. (
          record { before = forks_like net _ after d s t.before.before refl refl refl refl refl refl; queues = λ j l. t.before.queues j (omega arith) ∙ other j (λ z. omega arith) },
          queues_are s ∙ ap (λ x. words (queue_words u x) ∷ at_entries net u 0 s) (t.next ∙ ap (λ (q : QueuePart). q.next) (ap (λ (l : List QueuePart). get_or l u no_part) new ∙ here)) ∙ ap (λ x. words x ∷ at_entries net u 0 s) e,
        );
      };
    }
      where
        part : QueuePart
        part = record { next = n; entries = [] }

        after : Saved
        after = record d { parts = record d.parts { queues = qs } }

        long : u < length d.parts.queues
        long = let z = m.fits.by_unit.queues_long in omega arith

        here : get_or (set d.parts.queues u (record { next = n; entries = [] })) u no_part ≡ record { next = n; entries = [] }
        here = get_or-set_same d.parts.queues u (record { next = n; entries = [] }) no_part long

        other : (j : ℕ) → (j ≡ u → ⊥) → get_or qs j no_part ≡ get_or d.parts.queues j no_part
        other j z = ap (λ (l : List QueuePart). get_or l j no_part) new ∙ get_or-set_other d.parts.queues u j (record { next = n; entries = [] }) no_part z

        empty : QueueFacts net (kind_of net u) (record { next = n; entries = [] })
        empty = record { room = omega arith; order = λ i l. absurd (omega arith); each_one = λ i l. absurd (omega arith); numbered = omega arith; next = small }

        next_is : (s : Saved) → MaySave net s → (more : List (List ℕ)) → at_queues net from s ≡ words ws ∷ more → (get_or s.parts.queues u no_part).next ≡ n
        next_is s k more is =
            let most = k.fits.serials u in
            decimal_injective _ n (omega arith) (omega arith) (ap (λ x. get_or x 2 []) (queue_is s k more is ∙ sym e))
