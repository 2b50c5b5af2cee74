use Rattle.graphql_server.proofs.Changes.{changed-append}
use Rattle.graphql_server.proofs.texts.change_many.Goals as goal

pub loop-change-preserved : goal.loop-change-preserved
loop-change-preserved c =
    changed-append c.args.encoding c.args.document.now c.loop-change.yielded c.loop-change.pieces c.in-Some.change
    c.change_piece.new.pieces c.loop-change.invariant c.in_ok-change_piece.ensures
