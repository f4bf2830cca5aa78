-- The lines of the result, of channels and of forks.
use Rattle.std.proofs.Common.{◌≡◌, ◌≢◌, ◌⊎◌, ℕ, ◌+◌, ◌<◌, ◌≤◌, ◌^◌, true, false, Option, Some, None, List, [], ◌∷◌, ◌++◌, length, drop, get_or, set, codes, decimal, refl, sym, ap, subst, ◌∙◌, inl, inr, arith, lit<, get_or-set_same, get_or-set_other, length-set}
use Rattle.std.specs.List.{All}
use Rattle.std.proofs.lemmas.Bool.{false≢true, cases_eq, cases_lt}
use Rattle.std.proofs.lemmas.Fmt.{decimal_injective}
use Rattle.std.proofs.lemmas.List.{get_or_past}
use Rattle.std.proofs.lemmas.List.Elements.{All-head}
use Rattle.net_types.specs.declared.net.Net.{Net}
use Rattle.net_types.specs.declared.net.Unit.{Unit as Kind}
use Rattle.net_types.specs.declared.net.Unit.TheVariants.{Entry, Fork, Exit}
use Rattle.net_types.specs.Nets.{into, kind_of, chan_at}
use Rattle.net_check.specs.Checks.{IsChecked}
use Rattle.net_check.specs.Headers.{is_exit}
use Rattle.net_text.specs.Reads.{lacks}
use Rattle.net_text.proofs.Cuts.{decimal_lacks}
use Rattle.net_core.specs.Parts.{SentFits, OwnStands, noted_outs}
use Rattle.snapshot.specs.declared.draft.Stage.TheVariants.{Chans, Forks}
use Rattle.snapshot.specs.declared.saved.Saved.{Saved}
use Rattle.snapshot.specs.Fits.{Fits, UnitFits, ValueFits}
use Rattle.snapshot.specs.Refusals.{MaySave}
use Rattle.snapshot.specs.Texts.{words, list_lines, chan_lines, fork_lines, queue_lines, value_lines, from_chans, from_forks, from_queues, from_arrays}
use Rattle.snapshot.specs.private.Words.{AreWords, number_words, list_words, ChanFits, ForkFits, PatternFits, ValueIsOf}
use Rattle.snapshot.specs.private.Drafts.{AgreeBelow, BlankFrom, ToValue, ToChans, ToForks, ToQueues, at_value, at_chans, at_forks, at_queues, BlankChans, BlankForks, Taken, Refuses}
use Rattle.snapshot.proofs.Agrees.{take_forth, take_back, pass_forth, pass_back}
use Rattle.snapshot.proofs.Frames.{fits_plain, fits_tokens, fits_sent}
use Rattle.snapshot.proofs.Keys.{key, no_chan, no_fork}
use Rattle.snapshot.proofs.Spelt.{LackAll, lack_more, lack_none, lack_map, same_words, decimals_same}
use Rattle.snapshot.proofs.Stages1.{Passes, first_of, each_start, blank_chans, blank_forks, value_of, value_told, value_other, value_small}

pub exit_is : (k : Kind) → is_exit k ≡ true → k ≡ Exit
exit_is Exit e = refl
exit_is k e = absurd (false≢true e)

-- ---- the result

module _ (net : Net) (checked : IsChecked net) (ws : List (List ℕ)) (a : AreWords ws) (d : Saved) (m : MaySave net d) (b : BlankChans net 0 d) where
  abbrev exit : ℕ
  exit = checked.one_exit.unit

  exit_here : kind_of net exit ≡ Exit
  exit_here = exit_is (kind_of net exit) checked.one_exit.here

  -- the results of the draft and of a state that shares what has fired
  own_value : ValueFits net.result (get_or d.parts.fired exit false) d.parts.value
  own_value = m.fits.value exit exit_here

  other_value : (s : Saved) → MaySave net s → ToValue net d s → ValueFits net.result (get_or d.parts.fired exit false) s.parts.value
  other_value s k t = subst (λ f. ValueFits net.result f s.parts.value) (t.fired exit checked.one_exit.within) (k.fits.value exit exit_here)

  pub value_pass : d.parts.value ≡ None → Passes net (ToValue net d) (at_value net) (words ws) (ToChans net 0 d) (at_chans net 0)
  value_pass none = record {
    forth = λ s k t more e. record { before = t; value = value_of net.result _ d.parts.value s.parts.value own_value (other_value s k t) none ∙ sym none; tokens = λ i low. absurd (omega arith) };
    back = λ s k t. (t.before, ap (λ o. value_lines o ++ from_chans net s.parts) (t.value ∙ none) ∙ ap (λ ls. ls ++ from_forks net s.parts) (sym (each_start (chan_lines s.parts.tokens) (length net.chans))));
  }

  value_lack : (v : ℕ) → v < 2 ^ 64 → LackAll 32 (number_words (codes "value") v)
  value_lack v small = lack_more 32 (codes "value") _ refl (lack_more 32 (decimal v) [] (decimal_lacks 32 v (lit< tt) small) (lack_none 32))

  -- a state's line
  value_at : (v : ℕ) → d.parts.value ≡ Some v → (s : Saved) → MaySave net s → ToValue net d s → (more : List (List ℕ)) → at_value net s ≡ words ws ∷ more
      → (w : ℕ) × (s.parts.value ≡ Some w) × ValueIsOf net.result w × (number_words (codes "value") w ≡ ws)
  value_at v is s k t more e =
      let q = value_told net.result _ d.parts.value s.parts.value own_value (other_value s k t) v is in
      let line : words (number_words (codes "value") q.0) ∷ from_chans net s.parts ≡ words ws ∷ more = ap (λ o. value_lines o ++ from_chans net s.parts) (sym q.1) ∙ e in
      (q.0, q.1, q.2, same_words (codes "value") (decimal q.0 ∷ []) ws (value_lack q.0 (value_small net.result q.0 q.2)) a (first_of _ _ (words ws) more line))

  pub value_refused : (v : ℕ) → d.parts.value ≡ Some v → ((w : ℕ) → ValueIsOf net.result w → number_words (codes "value") w ≡ ws → ⊥) → Refuses net (ToValue net d) (at_value net) (words ws)
  value_refused v is never s k t more e = let q = value_at v is s k t more e in never q.0 q.2 q.3

  abbrev with_value : Option ℕ → Saved
  with_value o = record d { parts = record d.parts { value = o } }

  pub value_taken : (v w : ℕ) → d.parts.value ≡ Some v → ValueIsOf net.result w → number_words (codes "value") w ≡ ws → Taken net (ToValue net d) (at_value net) (words ws) (record { stage = Chans 0; saved = with_value (Some w) })
  value_taken v w is fits same = record {
    stands = record {
      may = record {
        made = m.made;
        fits = fits_plain net d.parts d.parts.given d.parts.fired (Some w) d.parts.strays m.fits m.fits.stands.fit m.fits.by_unit.fired_long m.fits.by_unit.fired
            (λ x k. value_other net.result (get_or d.parts.fired x false) d.parts.value v w (m.fits.value x k) is fits) m.fits.stands.strays m.fits.strays;
      };
      blank = blank_chans net 0 d (with_value (Some w)) b refl refl;
    };
    takes = record {
      forth = λ s k t more e. (let q = value_at v is s k t more e in record {
        before = record { before = record { made = t.before.made; scalars = t.before.scalars }; fired = t.fired };
        value = q.1 ∙ ap Some (decimal_injective q.0 w (value_small net.result q.0 q.2) (value_small net.result w fits) (ap (λ x. get_or x 1 []) (q.3 ∙ sym same)));
        tokens = λ i low. absurd (omega arith);
      });
      back = λ s k t. (
        record { before = record { made = t.before.before.made; scalars = t.before.before.scalars }; fired = t.before.fired },
        ap (λ o. value_lines o ++ from_chans net s.parts) t.value ∙ ap (λ x. words x ∷ from_chans net s.parts) same
            ∙ ap (λ ls. words ws ∷ (ls ++ from_forks net s.parts)) (sym (each_start (chan_lines s.parts.tokens) (length net.chans))),
      );
    };
  }

-- ---- lists by number

pub list_empty : (word : List ℕ) (i : ℕ) → list_lines word i [] ≡ []
list_empty word i = refl

pub list_told : (word : List ℕ) (i : ℕ) (vs : List ℕ) → list_lines word i vs ≡ [] → vs ≡ []
list_told word i [] e = refl
list_told word i (v ∷ vs) e = absurd (let z = ap length e in omega arith)

pub list_is : (word : List ℕ) (i : ℕ) (vs : List ℕ) (l : List ℕ) (t : List (List ℕ)) → list_lines word i vs ≡ l ∷ t → (vs ≢ []) × (words (list_words word (i, vs)) ≡ l)
list_is word i [] l t e = absurd (let z = ap length e in omega arith)
list_is word i (v ∷ vs) l t e = ((λ z. absurd (let y = ap length z in omega arith)), first_of _ [] l t e)

list_line : (word : List ℕ) (i : ℕ) (vs : List ℕ) → vs ≢ [] → list_lines word i vs ≡ words (list_words word (i, vs)) ∷ []
list_line word i [] n = absurd (n refl)
list_line word i (v ∷ vs) n = refl

pub list_lack : (word : List ℕ) (i : ℕ) (vs : List ℕ) → lacks 32 word ≡ true → i < 2 ^ 64 → All (λ v. v < 2 ^ 64) vs → LackAll 32 (list_words word (i, vs))
list_lack word i vs w small all =
    lack_more 32 word _ w (lack_more 32 (decimal i) _ (decimal_lacks 32 i (lit< tt) small) (lack_map 32 (λ v. v < 2 ^ 64) decimal (λ v s. decimal_lacks 32 v (lit< tt) s) vs all))

pub all_mono : (P Q : ℕ → Type 0) → ((v : ℕ) → P v → Q v) → (vs : List ℕ) → All P vs → All Q vs
all_mono P Q f vs h = λ k d l. f _ (h k d l)

-- what two lists of words of one text share
pub list_same : (word : List ℕ) (i j : ℕ) (us vs : List ℕ) → i < 2 ^ 64 → j < 2 ^ 64 → All (λ v. v < 2 ^ 64) us → All (λ v. v < 2 ^ 64) vs → list_words word (i, us) ≡ list_words word (j, vs) → (i ≡ j) × (us ≡ vs)
list_same word i j us vs a b f g e = (decimal_injective i j a b (ap (λ x. get_or x 1 []) e), decimals_same us vs f g (ap (drop 2) e))

-- ---- channels

-- at each place of a list with one item set
set_each : {V : Type 0} (v : V) (xs : List V) (k : ℕ) (x : V) (P : ℕ → V → Type 0) → k < length xs → P k x → ((i : ℕ) → P i (get_or xs i v)) → (i : ℕ) → P i (get_or (set xs k x) i v)
set_each {V} v xs k x P low here others i = by (cases_eq i k)
  where
    by : (i ≡ k) ⊎ (i ≡ k → ⊥) → P i (get_or (set xs k x) i v)
    by (inl e) = subst (λ j. P j (get_or (set xs k x) j v)) (sym e) (subst (P k) (sym (get_or-set_same xs k x v low)) here)
    by (inr n) = subst (P i) (sym (get_or-set_other xs k i x v n)) (others i)

pub blank_after : {V : Type 0} (v : V) (xs : List V) (i k : ℕ) (x : V) → BlankFrom v i xs → i ≤ k → BlankFrom v (k + 1) (set xs k x)
blank_after v xs i k x b low j high = get_or-set_other xs k j x v (λ e. omega arith) ∙ b j (omega arith)

module _ (net : Net) (checked : IsChecked net) (thin : (c : ℕ) (v : ℕ) → c < length net.chans → v < 2 ^ (chan_at net c).width → v < 2 ^ 64) (ws : List (List ℕ)) (a : AreWords ws) where
  chan_small : (c : ℕ) → c < length net.chans → c < 2 ^ 64
  chan_small c w = let n = checked.numbered.chans in omega arith

  tokens_small : (c : ℕ) (vs : List ℕ) → c < length net.chans → All (PatternFits (chan_at net c).width) vs → All (λ v. v < 2 ^ 64) vs
  tokens_small c vs w h = all_mono (PatternFits (chan_at net c).width) (λ v. v < 2 ^ 64) (λ v s. thin c v w s) vs h

  chan_at_line : (s : Saved) → MaySave net s → (c : ℕ) (t : List (List ℕ)) → c < length net.chans → list_lines (codes "chan") c (get_or s.parts.tokens c []) ≡ words ws ∷ t
      → (get_or s.parts.tokens c [] ≢ []) × (list_words (codes "chan") (c, get_or s.parts.tokens c []) ≡ ws)
  chan_at_line s m c t w e =
      let f = list_is (codes "chan") c (get_or s.parts.tokens c []) (words ws) t e in
      (f.0, same_words (codes "chan") _ ws (list_lack (codes "chan") c _ refl (chan_small c w) (tokens_small c _ w (m.fits.tokens c))) a f.1)

  pub chan_pass : (from : ℕ) (d : Saved) → BlankChans net from d → ((p : ℕ × List ℕ) → ChanFits net.chans from p → list_words (codes "chan") p ≡ ws → ⊥)
      → Passes net (ToChans net from d) (at_chans net from) (words ws) (ToForks net 0 d) (at_forks net 0)
  chan_pass from d b never = record {
    forth = λ s m t more e. record {
      before = record {
        before = t.before;
        value = t.value;
        tokens = pass_forth [] (list_lines (codes "chan")) (list_empty (codes "chan")) (list_told (codes "chan")) s.parts.tokens d.parts.tokens from (length net.chans) (words ws) (from_forks net s.parts) more b.within t.tokens b.tokens
            (λ c r low high is. (let f = chan_at_line s m c r high is in never (c, get_or s.parts.tokens c []) (record { from = low; within = high; some = f.0; slots = m.fits.stands.slots c; patterns = m.fits.tokens c }) f.1)) e;
      };
      sent = λ i low. absurd (omega arith);
    };
    back = λ s m t. (let q = pass_back [] (list_lines (codes "chan")) (list_empty (codes "chan")) (list_told (codes "chan")) s.parts.tokens d.parts.tokens from (length net.chans) (from_forks net s.parts) b.within b.tokens t.before.tokens in (
      record { before = t.before.before; value = t.before.value; tokens = q.0 },
      q.1 ∙ ap (λ ls. ls ++ from_queues net s.parts) (sym (each_start (fork_lines s.parts.sent) (length net.units))),
    ));
  }

  abbrev with_tokens : Saved → List (List ℕ) → Saved
  with_tokens d ts = record d { parts = record d.parts { tokens = ts } }

  pub chan_taken : (from : ℕ) (d : Saved) (c : ℕ) (vs : List ℕ) (ts : List (List ℕ)) → MaySave net d → BlankChans net from d → ChanFits net.chans from (c, vs) → list_words (codes "chan") (c, vs) ≡ ws → ts ≡ set d.parts.tokens c vs
      → Taken net (ToChans net from d) (at_chans net from) (words ws) (record { stage = Chans (c + 1); saved = with_tokens d ts })
  chan_taken from d c vs ts m b f e new = record {
    stands = record {
      may = record { made = m.made; fits = fits };
      blank = record { within = (let w = f.within in omega arith); tokens = subst (BlankFrom [] (c + 1)) (sym new) (blank_after [] d.parts.tokens from c vs b.tokens f.from); forks = blank_forks net 0 d (with_tokens d ts) b.forks refl };
    };
    takes = record {
      forth = λ s k t more is. record {
        before = record { before = record { made = t.before.before.made; scalars = t.before.before.scalars }; fired = t.before.fired };
        value = t.value;
        tokens = subst (AgreeBelow [] (c + 1) s.parts.tokens) (sym new)
            (take_forth [] (list_lines (codes "chan")) (list_empty (codes "chan")) (list_told (codes "chan")) s.parts.tokens d.parts.tokens from c (length net.chans) vs (words ws) (from_forks net s.parts) more f.from f.within long t.tokens b.tokens
            (λ i r low high g. (let q = chan_at_line s k i r high g in
            let p = list_same (codes "chan") i c (get_or s.parts.tokens i []) vs (chan_small i high) (chan_small c f.within) (tokens_small i _ high (k.fits.tokens i)) (tokens_small c vs f.within f.patterns) (q.1 ∙ sym e) in (p.0, p.1)))
            (λ g. no_chan net s.parts (words ws) more g (ap (λ x. key (words x)) (sym e))) is);
      };
      back = λ s k t. (let q = take_back [] (list_lines (codes "chan")) (list_empty (codes "chan")) (list_told (codes "chan")) s.parts.tokens d.parts.tokens from c (length net.chans) vs (words ws) (from_forks net s.parts) f.from f.within long b.tokens
          (list_line (codes "chan") c vs f.some ∙ ap (λ x. words x ∷ []) e) (subst (AgreeBelow [] (c + 1) s.parts.tokens) new t.tokens) in (
            record { before = record { before = record { made = t.before.before.made; scalars = t.before.before.scalars }; fired = t.before.fired }; value = t.value; tokens = q.0 },
            q.1,
          ));
    };
  }
    where
      long : c < length d.parts.tokens
      long = let z = m.fits.stands.chans in let w = f.within in omega arith

      none : (u : ℕ) → get_or d.parts.sent u [] ≡ []
      none u = b.forks.sent u (omega arith)

      fits : Fits net (with_tokens d ts).parts
      fits = fits_tokens net d.parts ts m.fits none (ap length new ∙ length-set d.parts.tokens c vs ∙ m.fits.stands.chans)
          (λ i. subst (λ (l : List (List ℕ)). length (get_or l i []) ≤ (chan_at net i).slots) (sym new) (set_each [] d.parts.tokens c vs (λ j x. length x ≤ (chan_at net j).slots) long f.slots m.fits.stands.slots i))
          (λ i. subst (λ (l : List (List ℕ)). All (λ v. v < 2 ^ (chan_at net i).width) (get_or l i [])) (sym new) (set_each [] d.parts.tokens c vs (λ j x. All (λ v. v < 2 ^ (chan_at net j).width) x) long f.patterns m.fits.tokens i))

-- ---- forks

-- bits stand at forks alone, and there a token at the input
fork_own : (k : Kind) (net : Net) (s : Saved) (u : ℕ) → OwnStands k s.parts u → UnitFits net s.parts u k → All (λ j. j < noted_outs k) (get_or s.parts.sent u []) → get_or s.parts.sent u [] ≢ []
    → SentFits (noted_outs k) (get_or s.parts.sent u []) × (get_or s.parts.tokens (into u 0 net.chans) [] ≢ [])
fork_own (Fork w outs) net s u o f h n = (o, f n)
fork_own Entry net s u o f h n = absurd (none _ h n)
  where
    none : (js : List ℕ) → All (λ j. j < 0) js → js ≢ [] → ⊥
    none [] h n = n refl
    none (j ∷ js) h n = let z = All-head (λ j. j < 0) j js h in omega arith
fork_own k net s u o f h n = absurd (none _ h n)
  where
    none : (js : List ℕ) → All (λ j. j < 0) js → js ≢ [] → ⊥
    none [] h n = n refl
    none (j ∷ js) h n = let z = All-head (λ j. j < 0) j js h in omega arith

module _ (net : Net) (checked : IsChecked net) (few : (u : ℕ) → noted_outs (kind_of net u) < 2 ^ 32) (ws : List (List ℕ)) (a : AreWords ws) where
  unit_small : (u : ℕ) → u < length net.units → u < 2 ^ 64
  unit_small u w = let n = checked.numbered.units in omega arith

  outs_small : (u : ℕ) (js : List ℕ) → All (λ j. j < noted_outs (kind_of net u)) js → All (λ v. v < 2 ^ 64) js
  outs_small u js h = all_mono (λ j. j < noted_outs (kind_of net u)) (λ v. v < 2 ^ 64) (λ v s. (let f = few u in omega arith)) js h

  fork_at_line : (s : Saved) → MaySave net s → (u : ℕ) (t : List (List ℕ)) → u < length net.units → list_lines (codes "fork") u (get_or s.parts.sent u []) ≡ words ws ∷ t
      → (get_or s.parts.sent u [] ≢ []) × (list_words (codes "fork") (u, get_or s.parts.sent u []) ≡ ws)
  fork_at_line s m u t w e =
      let f = list_is (codes "fork") u (get_or s.parts.sent u []) (words ws) t e in
      (f.0, same_words (codes "fork") _ ws (list_lack (codes "fork") u _ refl (unit_small u w) (outs_small u _ (m.fits.by_unit.within u))) a f.1)

  pub fork_pass : (from : ℕ) (d : Saved) → BlankForks net from d → ((p : ℕ × List ℕ) → ForkFits net.units from p → list_words (codes "fork") p ≡ ws → ⊥)
      → Passes net (ToForks net from d) (at_forks net from) (words ws) (ToQueues net 0 d) (at_queues net 0)
  fork_pass from d b never = record {
    forth = λ s m t more e. record {
      before = record {
        before = t.before;
        sent = pass_forth [] (list_lines (codes "fork")) (list_empty (codes "fork")) (list_told (codes "fork")) s.parts.sent d.parts.sent from (length net.units) (words ws) (from_queues net s.parts) more b.within t.sent b.sent
            (λ u r low high is. (let f = fork_at_line s m u r high is in
            let o = fork_own (kind_of net u) net s u (m.fits.stands.own u high) (m.fits.units u) (m.fits.by_unit.within u) f.0 in
            never (u, get_or s.parts.sent u []) (record { from = low; within = high; some = f.0; sent = o.0 }) f.1)) e;
      };
      queues = λ i low. absurd (omega arith);
    };
    back = λ s m t. (let q = pass_back [] (list_lines (codes "fork")) (list_empty (codes "fork")) (list_told (codes "fork")) s.parts.sent d.parts.sent from (length net.units) (from_queues net s.parts) b.within b.sent t.before.sent in (
      record { before = t.before.before; sent = q.0 },
      q.1 ∙ ap (λ ls. ls ++ from_arrays net s.parts) (sym (each_start (queue_lines (kind_of net) s.parts.queues) (length net.units))),
    ));
  }

  abbrev with_sent : Saved → List (List ℕ) → Saved
  with_sent d ts = record d { parts = record d.parts { sent = ts } }

  pub fork_taken : (from : ℕ) (d : Saved) (u : ℕ) (js : List ℕ) (ts : List (List ℕ)) → MaySave net d → BlankForks net from d → ForkFits net.units from (u, js) → list_words (codes "fork") (u, js) ≡ ws
      → get_or d.parts.tokens (into u 0 net.chans) [] ≢ [] → ts ≡ set d.parts.sent u js
      → Taken net (ToForks net from d) (at_forks net from) (words ws) (record { stage = Forks (u + 1); saved = with_sent d ts })
  fork_taken from d u js ts m b f e head new = record {
    stands = record {
      may = record { made = m.made; fits = subst (λ (l : List (List ℕ)). Fits net (with_sent d l).parts) (sym new) (fits_sent net d.parts u js m.fits f.within f.sent head) };
      blank = record { within = (let w = f.within in omega arith); sent = subst (BlankFrom [] (u + 1)) (sym new) (blank_after [] d.parts.sent from u js b.sent f.from) };
    };
    takes = record {
      forth = λ s k t more is. record {
        before = record { before = record { before = record { made = t.before.before.before.made; scalars = t.before.before.before.scalars }; fired = t.before.before.fired }; value = t.before.value; tokens = t.before.tokens };
        sent = subst (AgreeBelow [] (u + 1) s.parts.sent) (sym new)
            (take_forth [] (list_lines (codes "fork")) (list_empty (codes "fork")) (list_told (codes "fork")) s.parts.sent d.parts.sent from u (length net.units) js (words ws) (from_queues net s.parts) more f.from f.within long t.sent b.sent
            (λ i r low high g. (let q = fork_at_line s k i r high g in
            let p = list_same (codes "fork") i u (get_or s.parts.sent i []) js (unit_small i high) (unit_small u f.within) (outs_small i _ (k.fits.by_unit.within i)) (outs_small u js f.sent.within) (q.1 ∙ sym e) in (p.0, p.1)))
            (λ g. no_fork net s.parts (words ws) more g (ap (λ x. key (words x)) (sym e))) is);
      };
      back = λ s k t. (let q = take_back [] (list_lines (codes "fork")) (list_empty (codes "fork")) (list_told (codes "fork")) s.parts.sent d.parts.sent from u (length net.units) js (words ws) (from_queues net s.parts) f.from f.within long b.sent
          (list_line (codes "fork") u js f.some ∙ ap (λ x. words x ∷ []) e) (subst (AgreeBelow [] (u + 1) s.parts.sent) new t.sent) in (
            record { before = record { before = record { before = record { made = t.before.before.before.made; scalars = t.before.before.before.scalars }; fired = t.before.before.fired }; value = t.before.value; tokens = t.before.tokens }; sent = q.0 },
            q.1,
          ));
    };
  }
    where
      long : u < length d.parts.sent
      long = let z = m.fits.by_unit.sent_long in let w = f.within in omega arith

  -- a fork without a token at its input may not be next
  pub fork_refused : (from : ℕ) (d : Saved) (u : ℕ) (js : List ℕ) → BlankForks net from d → ForkFits net.units from (u, js) → list_words (codes "fork") (u, js) ≡ ws
      → get_or d.parts.tokens (into u 0 net.chans) [] ≡ [] → length d.parts.tokens ≡ length net.chans → Refuses net (ToForks net from d) (at_forks net from) (words ws)
  fork_refused from d u js b f e none long s m t more is =
      no_fork net s.parts (words ws) more rest (ap (λ x. key (words x)) (sym e))
    where
      -- no fork of the state has the line, so the line is of those after the forks
      never : (i : ℕ) (r : List (List ℕ)) → from ≤ i → i < length net.units → list_lines (codes "fork") i (get_or s.parts.sent i []) ≡ words ws ∷ r → ⊥
      never i r low high g =
          let q = fork_at_line s m i r high g in
          let p = list_same (codes "fork") i u (get_or s.parts.sent i []) js (unit_small i high) (unit_small u f.within) (outs_small i _ (m.fits.by_unit.within i)) (outs_small u js f.sent.within) (q.1 ∙ sym e) in
          let o = fork_own (kind_of net i) net s i (m.fits.stands.own i high) (m.fits.units i) (m.fits.by_unit.within i) q.0 in
          o.1 (tokens_at i p.0)
        where
          tokens_at : (i : ℕ) → i ≡ u → get_or s.parts.tokens (into i 0 net.chans) [] ≡ []
          tokens_at i z = ap (λ j. get_or s.parts.tokens (into j 0 net.chans) []) z ∙ by (cases_lt (into u 0 net.chans) (length net.chans))
            where
              by : (into u 0 net.chans < length net.chans) ⊎ (length net.chans ≤ into u 0 net.chans) → get_or s.parts.tokens (into u 0 net.chans) [] ≡ []
              by (inl l) = t.before.tokens (into u 0 net.chans) l ∙ none
              by (inr l) = get_or_past s.parts.tokens (into u 0 net.chans) [] (let z = m.fits.stands.chans in omega arith)

      agree : AgreeBelow [] (length net.units) s.parts.sent d.parts.sent
      agree = pass_forth [] (list_lines (codes "fork")) (list_empty (codes "fork")) (list_told (codes "fork")) s.parts.sent d.parts.sent from (length net.units) (words ws) (from_queues net s.parts) more b.within t.sent b.sent never is

      rest : from_queues net s.parts ≡ words ws ∷ more
      rest = sym (pass_back [] (list_lines (codes "fork")) (list_empty (codes "fork")) (list_told (codes "fork")) s.parts.sent d.parts.sent from (length net.units) (from_queues net s.parts) b.within b.sent agree).1 ∙ is
