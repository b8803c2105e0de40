-- The tags of unions and the numbers of enums in Arrow's metadata, under the names of Message.fbs and Schema.fbs.
use Rattle.std.specs.Prelude.{ℕ}

-- ---- the union Type

abbrev pub null : ℕ
null = 1

abbrev pub int : ℕ
int = 2

abbrev pub floating_point : ℕ
floating_point = 3

abbrev pub binary : ℕ
binary = 4

abbrev pub utf8 : ℕ
utf8 = 5

abbrev pub bool : ℕ
bool = 6

abbrev pub decimal : ℕ
decimal = 7

abbrev pub date : ℕ
date = 8

abbrev pub time : ℕ
time = 9

abbrev pub timestamp : ℕ
timestamp = 10

abbrev pub interval : ℕ
interval = 11

abbrev pub list : ℕ
list = 12

abbrev pub struct : ℕ
struct = 13

abbrev pub union : ℕ
union = 14

abbrev pub fixed_size_binary : ℕ
fixed_size_binary = 15

abbrev pub fixed_size_list : ℕ
fixed_size_list = 16

abbrev pub map : ℕ
map = 17

abbrev pub duration : ℕ
duration = 18

abbrev pub large_binary : ℕ
large_binary = 19

abbrev pub large_utf8 : ℕ
large_utf8 = 20

abbrev pub large_list : ℕ
large_list = 21

-- ---- the union MessageHeader

abbrev pub schema_tag : ℕ
schema_tag = 1

abbrev pub dictionary_tag : ℕ
dictionary_tag = 2

abbrev pub record_tag : ℕ
record_tag = 3

-- ---- enums

-- MetadataVersion
abbrev pub version_1 : ℕ
version_1 = 0

abbrev pub version_2 : ℕ
version_2 = 1

abbrev pub version_3 : ℕ
version_3 = 2

abbrev pub version_4 : ℕ
version_4 = 3

abbrev pub version_5 : ℕ
version_5 = 4

-- Endianness
abbrev pub little : ℕ
little = 0

abbrev pub big : ℕ
big = 1

-- DictionaryKind
abbrev pub dense_array : ℕ
dense_array = 0

-- Precision, of floats
abbrev pub half : ℕ
half = 0

abbrev pub single : ℕ
single = 1

abbrev pub double : ℕ
double = 2

-- DateUnit
abbrev pub date_day : ℕ
date_day = 0

abbrev pub date_millisecond : ℕ
date_millisecond = 1

-- TimeUnit
abbrev pub second : ℕ
second = 0

abbrev pub millisecond : ℕ
millisecond = 1

abbrev pub microsecond : ℕ
microsecond = 2

abbrev pub nanosecond : ℕ
nanosecond = 3

-- IntervalUnit
abbrev pub year_month : ℕ
year_month = 0

abbrev pub day_time : ℕ
day_time = 1

abbrev pub month_day_nano : ℕ
month_day_nano = 2

-- UnionMode
abbrev pub sparse : ℕ
sparse = 0

abbrev pub dense : ℕ
dense = 1
