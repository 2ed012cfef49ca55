use Rattle.std.proofs.Common.{rules}
use Rattle.refusal.proofs.Puts.{put_within}
use Rattle.lister.proofs.list.Goals as goal

pub slice_bounds-write_all-end : goal.slice_bounds-write_all-end
slice_bounds-write_all-end c =
    let h = put_within _ _ _ _ c.in-Ok.ensures.puts in
    search rules
