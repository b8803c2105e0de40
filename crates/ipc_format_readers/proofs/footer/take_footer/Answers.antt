-- The footer's bytes are taken in three parts.
use Rattle.std.proofs.Common.{rules, arith, ◌≡◌, ◌≤◌, ◌-◌, true, List, ℕ, subst}
use Rattle.std.specs.Prelude.{Some, Err, ⊤}
use Rattle.ipc_format_chunk_writing.specs.grammar.Files.{file_mark, stands_at}
use Rattle.ipc_format_readers.specs.Footers.{SizesFooter, TestsMark, footer_size}
use Rattle.ipc_format_readers.proofs.FooterTaken.{begins, ends, no_beginning, no_end, no_footer, no_size, not_behind, takes, too_short, wrong_mark}
use Rattle.ipc_format_readers.proofs.footer.take_footer.Goals as goal

pub returns-in_err-fill_from : goal.returns-in_err-fill_from
returns-in_err-fill_from g c =
    let error = c.in_err-fill_from.field-0.0 in
    let is : c.from_residual-in_err-fill_from.result ≡ Err error = search rules in
    rw is (no_beginning (g.R.Room.told c.args.reader.now) (g.R.Room.told c.extent.new.self) (g.R.Room.told c.fill_from.new.self)
    c.in_ok-start.start c.in_ok-start.end error c.in_ok-start.ensures.tells c.in_err-fill_from.ensures.fills)

pub returns-in_err-test_mark : goal.returns-in_err-test_mark
returns-in_err-test_mark g c =
    let old = g.R.Room.told c.args.reader.now in
    let second = g.R.Room.told c.fill_from.new.self in
    let start = c.in_ok-start.start in
    let end = c.in_ok-start.end in
    let mark = c.fill_from.new.into.items in
    let error = c.in_err-test_mark.field-0.0 in
    let is : c.from_residual-in_err-test_mark.result ≡ Err error = search rules in
    let same : c.deref.result.now ≡ mark = search rules in
    let begun = begins old (g.R.Room.told c.extent.new.self) second start end mark c.in_ok-start.ensures.tells c.in_ok-fill_from.ensures.fills.0
    c.in_ok-fill_from.ensures.fills.2 in
    rw is (wrong_mark old second second start end mark error begun
    (subst (λ (m : List ℕ). TestsMark {A = ⊤} m (Err error)) same c.in_err-test_mark.ensures))

pub returns-in_default : goal.returns-in_default
returns-in_default g c =
    let old = g.R.Room.told c.args.reader.now in
    let second = g.R.Room.told c.fill_from.new.self in
    let start = c.in_ok-start.start in
    let end = c.in_ok-start.end in
    let mark = c.fill_from.new.into.items in
    let begun = begins old (g.R.Room.told c.extent.new.self) second start end mark c.in_ok-start.ensures.tells c.in_ok-fill_from.ensures.fills.0
    c.in_ok-fill_from.ensures.fills.2 in
    not_behind old second start end mark begun c.in_default.ensures

pub returns-then-size : goal.returns-then-size
returns-then-size g c =
    let old = g.R.Room.told c.args.reader.now in
    let second = g.R.Room.told c.fill_from.new.self in
    let start = c.in_ok-start.start in
    let end = c.in_ok-start.end in
    let mark = c.fill_from.new.into.items in
    let size : c.in-Some.size ≡ end - start = search rules in
    let begun = begins old (g.R.Room.told c.extent.new.self) second start end mark c.in_ok-start.ensures.tells c.in_ok-fill_from.ensures.fills.0
    c.in_ok-fill_from.ensures.fills.2 in
    too_short old second start end c.in-Some.size mark begun size c.if-size.true

pub returns-in_err-fill_from-2 : goal.returns-in_err-fill_from-2
returns-in_err-fill_from-2 g c =
    let old = g.R.Room.told c.args.reader.now in
    let second = g.R.Room.told c.fill_from.new.self in
    let start = c.in_ok-start.start in
    let end = c.in_ok-start.end in
    let mark = c.fill_from.new.into.items in
    let error = c.in_err-fill_from-2.field-0.0 in
    let is : c.from_residual-in_err-fill_from-2.result ≡ Err error = search rules in
    let size : c.in-Some.size ≡ end - start = search rules in
    let enough : 10 ≤ end = omega (arith, size, c.if-size.false) in
    let begun = begins old (g.R.Room.told c.extent.new.self) second start end mark c.in_ok-start.ensures.tells c.in_ok-fill_from.ensures.fills.0
    c.in_ok-fill_from.ensures.fills.2 in
    rw is (no_end old second (g.R.Room.told c.fill_from-2.new.self) start end mark error begun enough c.in_err-fill_from-2.ensures.fills)

pub returns-in_err-length : goal.returns-in_err-length
returns-in_err-length g c =
    let old = g.R.Room.told c.args.reader.now in
    let second = g.R.Room.told c.fill_from.new.self in
    let third = g.R.Room.told c.fill_from-2.new.self in
    let start = c.in_ok-start.start in
    let end = c.in_ok-start.end in
    let mark = c.fill_from.new.into.items in
    let tail = c.fill_from-2.new.into.items in
    let error = c.in_err-length.field-0.0 in
    let is : c.from_residual-in_err-length.result ≡ Err error = search rules in
    let size : c.in-Some.size ≡ end - start = search rules in
    let enough : 10 ≤ end = omega (arith, size, c.if-size.false) in
    let marked : stands_at file_mark mark 0 ≡ true = search rules in
    let same : c.deref-2.result.now ≡ tail = search rules in
    let begun = begins old (g.R.Room.told c.extent.new.self) second start end mark c.in_ok-start.ensures.tells c.in_ok-fill_from.ensures.fills.0
    c.in_ok-fill_from.ensures.fills.2 in
    let ended = ends old second third start end mark tail begun marked enough c.in_ok-fill_from-2.ensures.fills.0
    c.in_ok-fill_from-2.ensures.fills.2 in
    rw is (no_size old third start end c.in-Some.size tail error ended size
    (subst (λ (t : List ℕ). SizesFooter t c.in-Some.size (Err error)) same c.in_err-length.ensures))

pub returns-in_err-fill_from-3 : goal.returns-in_err-fill_from-3
returns-in_err-fill_from-3 g c =
    let old = g.R.Room.told c.args.reader.now in
    let second = g.R.Room.told c.fill_from.new.self in
    let third = g.R.Room.told c.fill_from-2.new.self in
    let start = c.in_ok-start.start in
    let end = c.in_ok-start.end in
    let mark = c.fill_from.new.into.items in
    let tail = c.fill_from-2.new.into.items in
    let count = c.in_ok-length.length in
    let error = c.in_err-fill_from-3.field-0.0 in
    let is : c.from_residual-in_err-fill_from-3.result ≡ Err error = search rules in
    let size : c.in-Some.size ≡ end - start = search rules in
    let enough : 10 ≤ end = omega (arith, size, c.if-size.false) in
    let marked : stands_at file_mark mark 0 ≡ true = search rules in
    let same : c.deref-2.result.now ≡ tail = search rules in
    let begun = begins old (g.R.Room.told c.extent.new.self) second start end mark c.in_ok-start.ensures.tells c.in_ok-fill_from.ensures.fills.0
    c.in_ok-fill_from.ensures.fills.2 in
    let ended = ends old second third start end mark tail begun marked enough c.in_ok-fill_from-2.ensures.fills.0
    c.in_ok-fill_from-2.ensures.fills.2 in
    rw is (no_footer old third (g.R.Room.told c.fill_from-3.new.self) start end c.in-Some.size count tail error ended size
    (subst (λ (t : List ℕ). footer_size t c.in-Some.size ≡ Some count) same c.in_ok-length.ensures.0) c.in_err-fill_from-3.ensures.fills)

pub returns : goal.returns
returns g c =
    let old = g.R.Room.told c.args.reader.now in
    let second = g.R.Room.told c.fill_from.new.self in
    let third = g.R.Room.told c.fill_from-2.new.self in
    let start = c.in_ok-start.start in
    let end = c.in_ok-start.end in
    let mark = c.fill_from.new.into.items in
    let tail = c.fill_from-2.new.into.items in
    let count = c.in_ok-length.length in
    let size : c.in-Some.size ≡ end - start = search rules in
    let enough : 10 ≤ end = omega (arith, size, c.if-size.false) in
    let marked : stands_at file_mark mark 0 ≡ true = search rules in
    let same : c.deref-2.result.now ≡ tail = search rules in
    let begun = begins old (g.R.Room.told c.extent.new.self) second start end mark c.in_ok-start.ensures.tells c.in_ok-fill_from.ensures.fills.0
    c.in_ok-fill_from.ensures.fills.2 in
    let ended = ends old second third start end mark tail begun marked enough c.in_ok-fill_from-2.ensures.fills.0
    c.in_ok-fill_from-2.ensures.fills.2 in
    takes old third (g.R.Room.told c.fill_from-3.new.self) start end c.in-Some.size count tail c.fill_from-3.new.into.items ended size
    (subst (λ (t : List ℕ). footer_size t c.in-Some.size ≡ Some count) same c.in_ok-length.ensures.0) c.in_ok-fill_from-3.ensures.fills.0
    c.in_ok-fill_from-3.ensures.fills.2
