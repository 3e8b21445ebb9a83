use Rattle.copy.proofs.Fronts.{file_written}
use Rattle.copy.proofs.put_file.Goals as goal

pub returns : goal.returns
returns c =
    let w = rw c.groups.ensures.1 at c.put_groups.ensures in
    file_written c.args.f _ c.front_of-front.ensures c.put_id_hd.ensures c.put_body.ensures c.put_body-2.ensures w
