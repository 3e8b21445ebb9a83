use Rattle.put_channels.proofs.Channels.{bodies_written}
use Rattle.put_channels.proofs.Layout.put_bodies.Goals as goal

pub returns : goal.returns
returns c = bodies_written _ _ _ c.args.self.placed c.put_body.ensures c.put_body-2.ensures c.put_body-3.ensures c.put_body-4.ensures c.put_body-5.ensures
