use Rattle.std.proofs.Common.{◌∷◌, ◌++◌, decimal, ap, ◌∙◌}
use Rattle.net_text.specs.Fits.{Always}
use Rattle.net_text.specs.Pieces.{ports_text}
use Rattle.net_text.specs.Reads.{lacks, QueueEndFits, queue_end}
use Rattle.net_text.proofs.Cuts.{cut_present}
use Rattle.net_text.proofs.ReadLemmas.{none_some, none_read}
use Rattle.net_text.proofs.UnitKinds.{no_queue, number_cut, ports_cut}
use Rattle.net_text.proofs.read_units.read_queue.Goals as goal

pub returns-in_default-cut : goal.returns-in_default-cut
returns-in_default-cut c = no_queue c.args.version c.args.args.now (λ a d ps gs m f e.
    let s1 = number_cut a _ c.args.args.now c.in-Some.array.now c.in-Some.rest.now f.0.array e c.in-Some.ensures in
    cut_present 32 (decimal d) (ports_text ps ++ 32 ∷ queue_end c.args.version (gs, m)) (ap (lacks 32) s1.1 ∙ c.in_default-cut.ensures))

pub returns-in_default-cut-2 : goal.returns-in_default-cut-2
returns-in_default-cut-2 c = no_queue c.args.version c.args.args.now (λ a d ps gs m f e.
    let s1 = number_cut a _ c.args.args.now c.in-Some.array.now c.in-Some.rest.now f.0.array e c.in-Some.ensures in
    let s2 = number_cut d _ c.in-Some.rest.now c.in-Some-cut.depth.now c.in-Some-cut.rest.now f.0.depth s1.1 c.in-Some-cut.ensures in
    cut_present 32 (ports_text ps) (queue_end c.args.version (gs, m)) (ap (lacks 32) s2.1 ∙ c.in_default-cut-2.ensures))

pub returns-in_default-read_u32 : goal.returns-in_default-read_u32
returns-in_default-read_u32 c = no_queue c.args.version c.args.args.now (λ a d ps gs m f e.
    let s1 = number_cut a _ c.args.args.now c.in-Some.array.now c.in-Some.rest.now f.0.array e c.in-Some.ensures in
    none_some a (c.in_default-read_u32.ensures.every a f.0.array s1.0))

pub returns-in_default-read_u32-2 : goal.returns-in_default-read_u32-2
returns-in_default-read_u32-2 c = no_queue c.args.version c.args.args.now (λ a d ps gs m f e.
    let s1 = number_cut a _ c.args.args.now c.in-Some.array.now c.in-Some.rest.now f.0.array e c.in-Some.ensures in
    let s2 = number_cut d _ c.in-Some.rest.now c.in-Some-cut.depth.now c.in-Some-cut.rest.now f.0.depth s1.1 c.in-Some-cut.ensures in
    none_some d (c.in_default-read_u32-2.ensures.every d f.0.depth s2.0))

pub returns-in_default-2 : goal.returns-in_default-2
returns-in_default-2 c = no_queue c.args.version c.args.args.now (λ a d ps gs m f e.
    let s1 = number_cut a _ c.args.args.now c.in-Some.array.now c.in-Some.rest.now f.0.array e c.in-Some.ensures in
    let s2 = number_cut d _ c.in-Some.rest.now c.in-Some-cut.depth.now c.in-Some-cut.rest.now f.0.depth s1.1 c.in-Some-cut.ensures in
    let s3 = ports_cut ps _ c.in-Some-cut.rest.now c.in-Some-cut-2.ports.now c.in-Some-cut-2.end.now s2.1 c.in-Some-cut-2.ensures in
    none_read Always ports_text _ c.in_ok-ports.field-0 c.in_default-2.is c.in_ok-ports.ensures ps tt s3.0)

pub returns-in_default-3 : goal.returns-in_default-3
returns-in_default-3 c = no_queue c.args.version c.args.args.now (λ a d ps gs m f e.
    let s1 = number_cut a _ c.args.args.now c.in-Some.array.now c.in-Some.rest.now f.0.array e c.in-Some.ensures in
    let s2 = number_cut d _ c.in-Some.rest.now c.in-Some-cut.depth.now c.in-Some-cut.rest.now f.0.depth s1.1 c.in-Some-cut.ensures in
    let s3 = ports_cut ps _ c.in-Some-cut.rest.now c.in-Some-cut-2.ports.now c.in-Some-cut-2.end.now s2.1 c.in-Some-cut-2.ensures in
    none_read (QueueEndFits c.args.version) (queue_end c.args.version) _ c.in_ok-groups.field-0 c.in_default-3.is c.in_ok-groups.ensures (gs, m) (f.0.groups, f.1) s3.1)
