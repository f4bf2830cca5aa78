use Rattle.std.proofs.Common.{refl}
use Rattle.lsq_core.proofs.ViewLemmas.{view_is}
use Rattle.lsq_core.proofs.lsq.Lsq.make.Goals as goal

pub returns-in-Addr-clause-queue : goal.returns-in-Addr-clause-queue
returns-in-Addr-clause-queue c = rw (c.in-Addr.is, ← c.self.view_is) (view_is _ _ c.change.ensures.mark c.change.ensures.next c.change.ensures.items refl refl refl refl)

pub returns-in-Data-clause-queue : goal.returns-in-Data-clause-queue
returns-in-Data-clause-queue c = rw (c.in-Data.is, ← c.self-in-Data.view_is) (view_is _ _ c.change-in-Data.ensures.mark c.change-in-Data.ensures.next c.change-in-Data.ensures.items refl refl refl refl)

pub returns-in-Reply-clause-queue : goal.returns-in-Reply-clause-queue
returns-in-Reply-clause-queue c = rw (c.in-Reply.is, ← c.self-in-Reply.view_is) (view_is _ _ c.change-in-Reply.ensures.mark c.change-in-Reply.ensures.next c.change-in-Reply.ensures.items refl refl refl refl)
