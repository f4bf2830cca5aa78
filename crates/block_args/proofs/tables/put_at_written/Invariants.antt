use Rattle.std.proofs.Common.{◌≡◌, drop, map}
use Rattle.ir.specs.declared.cfg.Write.{Write}
use Rattle.block_args.specs.Walks.{put_at_all}
use Rattle.block_args.proofs.tables.put_at_written.Given as goal

abbrev pub invariant-loop-write : goal.invariant-loop-write
invariant-loop-write l = put_at_all l.table (map (λ (x : Write). x.var) (drop l.write-index l.writes)) l.block ≡ put_at_all l.fn.table (map (λ (x : Write). x.var) l.writes) l.block
