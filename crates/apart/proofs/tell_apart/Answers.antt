use Rattle.stores.specs.Sources.{sheet_told, plain_told}
use Rattle.codec.specs.Records.{bytes_of}
use Rattle.calls.specs.Scripts.{calls_of}
use Rattle.apart.proofs.Telling.{fills_few, list_few, sided, told_apart}
use Rattle.apart.proofs.tell_apart.Goals as goal

pub same_fronts-lists-requires : goal.same_fronts-lists-requires
same_fronts-lists-requires g c = (
  list_few (sheet_told (g.A.Opened.Source.told c.play-left.new.store)) c.args.left_list.now c.play-left.new.list c.play-left.result.listed c.play-left.ensures.listed c.play-left.ensures.list,
  list_few (sheet_told (g.B.Opened.Source.told c.play-right.new.store)) c.args.right_list.now c.play-right.new.list c.play-right.result.listed c.play-right.ensures.listed c.play-right.ensures.list,
)

pub same_fronts-records-requires : goal.same_fronts-records-requires
same_fronts-records-requires g c = (
  fills_few (bytes_of (sheet_told (g.A.Opened.Source.told c.play-left.new.store))) c.args.left_file.now c.play-left.new.file c.play-left.result.recorded c.play-left.ensures.recorded c.play-left.ensures.file,
  fills_few (bytes_of (sheet_told (g.B.Opened.Source.told c.play-right.new.store))) c.args.right_file.now c.play-right.new.file c.play-right.result.recorded c.play-right.ensures.recorded c.play-right.ensures.file,
)

pub returns : goal.returns
returns g c =
    let first = c.in_ok-first.first in
    let second = c.in_ok-second.second in
    let one = c.in_ok-first.ensures in
    let two = c.in_ok-second.ensures in
    let a = c.play-left.new.store in
    let b = c.play-right.new.store in
    told_apart (g.A.Opens.limits c.args.left) (g.B.Opens.limits c.args.right) (calls_of c.args.left_calls.now) (calls_of c.args.right_calls.now) one.0 two.0 _
    c.args.left_list.now c.play-left.new.list c.args.left_file.now c.play-left.new.file
    c.args.right_list.now c.play-right.new.list c.args.right_file.now c.play-right.new.file
    one.1 two.1
    (sided one.0 (calls_of c.args.left_calls.now) (plain_told (g.A.Opened.Source.told first) (g.A.Opened.Store.longest first) (g.A.Opened.Store.total first)) (plain_told (g.A.Opened.Source.told a) (g.A.Opened.Store.longest a) (g.A.Opened.Store.total a)) c.play-left.result
    c.args.left_list.now c.play-left.new.list c.args.left_file.now c.play-left.new.file
    one.2 c.play-left.ensures.after (g.met.A.Opened.Store.keeps first) c.play-left.ensures.listed c.play-left.ensures.list c.play-left.ensures.recorded c.play-left.ensures.file)
    (sided two.0 (calls_of c.args.right_calls.now) (plain_told (g.B.Opened.Source.told second) (g.B.Opened.Store.longest second) (g.B.Opened.Store.total second)) (plain_told (g.B.Opened.Source.told b) (g.B.Opened.Store.longest b) (g.B.Opened.Store.total b)) c.play-right.result
    c.args.right_list.now c.play-right.new.list c.args.right_file.now c.play-right.new.file
    two.2 c.play-right.ensures.after (g.met.B.Opened.Store.keeps second) c.play-right.ensures.listed c.play-right.ensures.list c.play-right.ensures.recorded c.play-right.ensures.file)
    c.same_fronts-lists.ensures c.same_fronts-records.ensures
