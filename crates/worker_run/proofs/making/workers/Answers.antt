use Rattle.std.proofs.Common.{◌≡◌, ◌<◌, ◌≤◌, ◌++◌, ℕ, List, [], length, take, drop, ap, ◌∙◌, sym, subst}
use Rattle.std.specs.List.{All}
use Rattle.std.proofs.lemmas.List.FromFn.{length-map-range_with_len}
use Rattle.net_types.specs.declared.net.Net.{Net}
use Rattle.net_types.specs.declared.firing.Inputs.{Inputs}
use Rattle.net_types.specs.Inputs.{InputsFit}
use Rattle.el_base.specs.Limits.{max_workers}
use Rattle.net_worker.specs.declared.tables.Tables.{Tables}
use Rattle.net_split.specs.Owners.{owner}
use Rattle.net_worker.specs.declared.worker.Worker.{Worker}
use Rattle.net_worker.specs.Views.{net_of, inputs_of, unit_owners, log_of}
use Rattle.worker_run.specs.Crews.{AreMade, AreLinked, AllWhole}
use Rattle.worker_run.specs.Reports.{IsCrewOf}
use Rattle.worker_run.specs.private.Makings.{AreJoinedTo, AreTablesFor}
use Rattle.worker_run.proofs.GatherLemmas.{slice_back}
use Rattle.worker_run.proofs.JoinLemmas.{made_of, linked_of, whole_of}
use Rattle.worker_run.proofs.making.workers.Goals as goal

pub new-requires-clause-owned : goal.new-requires-clause-owned
new-requires-clause-owned c =
    let n = length c.args.net.now.units in
    ap length (c.as_slice.ensures ∙ c.in_ok-owners.ensures.owners) ∙ length-map-range_with_len (owner n c.args.count) 0 n

-- tables of a net with fitting inputs, whose owners are so many workers
tables_for : (t : Tables) (net : Net) (inputs : Inputs) (owners : List ℕ) (count : ℕ) → net_of t ≡ net → inputs_of t ≡ inputs → unit_owners t ≡ owners
    → InputsFit net inputs → All (λ o. o < count) owners → count ≤ max_workers → AreTablesFor t count
tables_for t net inputs owners count n i o fit below most = record {
  fit = subst (λ (m : Net). InputsFit m (inputs_of t)) (sym n) (subst (InputsFit net) (sym i) fit);
  below = subst (All (λ j. j < count)) (sym o) below;
  most = most;
}

pub new_workers-requires-clause-tables : goal.new_workers-requires-clause-tables
new_workers-requires-clause-tables c =
    tables_for c.in_ok-tables.tables c.args.net.now c.args.inputs.now c.in_ok-owners.owners c.args.count c.in_ok-tables.ensures.net c.in_ok-tables.ensures.inputs
    (c.in_ok-tables.ensures.owners ∙ c.as_slice.ensures) c.requires.fit c.in_ok-owners.ensures.below c.requires.most

pub join_all-requires-clause-tables : goal.join_all-requires-clause-tables
join_all-requires-clause-tables c =
    tables_for c.in_ok-tables.tables c.args.net.now c.args.inputs.now c.in_ok-owners.owners c.args.count c.in_ok-tables.ensures.net c.in_ok-tables.ensures.inputs
    (c.in_ok-tables.ensures.owners ∙ c.as_slice.ensures) c.requires.fit c.in_ok-owners.ensures.below c.requires.most

-- the workers ws are new workers, joined to all channels as xs
pub record Joined (t : Tables) (count limit : ℕ) (net : Net) (xs ws : List Worker) : Type 0 where
  pub back : ws ≡ xs
  pub here : AreJoinedTo t count limit (length net.chans) xs
  pub all : AreJoinedTo t count limit (length (net_of t).chans) xs

joined : (t : Tables) (count limit : ℕ) (net : Net) (news xs : List Worker) (n : ℕ) → net_of t ≡ net → n ≡ length news → AreJoinedTo t count limit 0 news
    → AreJoinedTo t count limit (length net.chans) xs → Joined t count limit net xs (take n (xs ++ drop (length xs) news))
joined t count limit net news xs n is len first last = record {
  back = slice_back news xs n len (last.long ∙ sym first.long);
  here = last;
  all = subst (λ (m : Net). AreJoinedTo t count limit (length m.chans) xs) (sym is) last;
}

made : (t : Tables) (count limit : ℕ) (net : Net) (xs ws : List Worker) → AreTablesFor t count → Joined t count limit net xs ws → AreMade t ws
made t count limit net xs ws tables j = subst (AreMade t) (sym j.back) (made_of t count limit (length net.chans) xs tables j.here)

linked : (t : Tables) (count limit : ℕ) (net : Net) (xs ws : List Worker) → Joined t count limit net xs ws → AreLinked t ws
linked t count limit net xs ws j = subst (AreLinked t) (sym j.back) (linked_of t count limit xs j.all)

pub invariant_of-result : goal.invariant_of-result
invariant_of-result c =
    let a = c.in_ok-workers.workers in
    let tables = tables_for c.in_ok-tables.tables c.args.net.now c.args.inputs.now c.in_ok-owners.owners c.args.count c.in_ok-tables.ensures.net c.in_ok-tables.ensures.inputs
    (c.in_ok-tables.ensures.owners ∙ c.as_slice.ensures) c.requires.fit c.in_ok-owners.ensures.below c.requires.most in
    let j = joined c.in_ok-tables.tables c.args.count c.args.limit c.args.net.now a.items c.join_all.new.workers a.len c.in_ok-tables.ensures.net a.ok.0 c.in_ok-workers.ensures c.in_ok-join_all.ensures in
    record { made = ∣ made c.in_ok-tables.tables c.args.count c.args.limit c.args.net.now c.join_all.new.workers _ tables j ∣₁; linked = linked c.in_ok-tables.tables c.args.count c.args.limit c.args.net.now c.join_all.new.workers _ j }

module _ (c : goal.After-drop-owners-inside-2) where
  abbrev t : Tables
  t = c.in_ok-tables.tables

  abbrev xs : List Worker
  xs = c.join_all.new.workers

  abbrev ws : List Worker
  ws = take c.in_ok-workers.workers.len (xs ++ drop (length xs) c.in_ok-workers.workers.items)

  j : Joined t c.args.count c.args.limit c.args.net.now xs ws
  j = joined t c.args.count c.args.limit c.args.net.now c.in_ok-workers.workers.items xs c.in_ok-workers.workers.len c.in_ok-tables.ensures.net c.in_ok-workers.workers.ok.0 c.in_ok-workers.ensures c.in_ok-join_all.ensures

  tables : AreTablesFor t c.args.count
  tables = tables_for c.in_ok-tables.tables c.args.net.now c.args.inputs.now c.in_ok-owners.owners c.args.count c.in_ok-tables.ensures.net c.in_ok-tables.ensures.inputs
      (c.in_ok-tables.ensures.owners ∙ c.as_slice.ensures) c.requires.fit c.in_ok-owners.ensures.below c.requires.most

pub returns-clause-crew : goal.returns-clause-crew
returns-clause-crew c =
    let h = (j c).here in
    let here : IsCrewOf c.args.net.now c.args.inputs.now c.args.count c.args.limit (t c) (xs c) = record {
      net_is = c.in_ok-tables.ensures.net;
      inputs_are = c.in_ok-tables.ensures.inputs;
      owners = c.in_ok-tables.ensures.owners ∙ (c.as_slice.ensures ∙ c.in_ok-owners.ensures.owners);
      count_is = h.long;
      shares = λ k d l. (h.each k d (subst (λ n. k < n) (sym h.long) l)).fresh.share_is;
    } in
    subst (IsCrewOf c.args.net.now c.args.inputs.now c.args.count c.args.limit (t c)) (sym (j c).back) here

pub returns-clause-made : goal.returns-clause-made
returns-clause-made c =
    (made (t c) c.args.count c.args.limit c.args.net.now (xs c) (ws c) (tables c) (j c), linked (t c) c.args.count c.args.limit c.args.net.now (xs c) (ws c) (j c))

pub returns-clause-whole : goal.returns-clause-whole
returns-clause-whole c = subst (AllWhole (t c)) (sym (j c).back) (whole_of (t c) c.args.count c.args.limit (xs c) (j c).all)

pub returns-clause-logs : goal.returns-clause-logs
returns-clause-logs c = subst (All (λ w. log_of w ≡ [])) (sym (j c).back) (λ k d l. ((j c).here.each k d l).fresh.log)
