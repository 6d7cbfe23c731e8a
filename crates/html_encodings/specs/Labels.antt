-- The names and the labels of encodings (Encoding Standard, section 4.2).
use Rattle.std.specs.Prelude.{ℕ, List, [], ◌∷◌, ◌++◌, codes}
use Rattle.html_encodings.specs.declared.encoding.Encoding.{Encoding}
use Rattle.html_encodings.specs.declared.encoding.Encoding.TheVariants.{Utf8, Ibm866, Iso8859_2, Iso8859_3, Iso8859_4, Iso8859_5, Iso8859_6, Iso8859_7, Iso8859_8, Iso8859_8I, Iso8859_10, Iso8859_13, Iso8859_14, Iso8859_15, Iso8859_16, Koi8R, Koi8U, Macintosh, Windows874, Windows1250, Windows1251, Windows1252, Windows1253, Windows1254, Windows1255, Windows1256, Windows1257, Windows1258, MacCyrillic, Gbk, Gb18030, Big5, EucJp, Iso2022Jp, ShiftJis, EucKr, Replacement, Utf16Be, Utf16Le, UserDefined}

-- the name of an encoding
abbrev pub name_of : Encoding → List ℕ
name_of Utf8 = codes "UTF-8"
name_of Ibm866 = codes "IBM866"
name_of Iso8859_2 = codes "ISO-8859-2"
name_of Iso8859_3 = codes "ISO-8859-3"
name_of Iso8859_4 = codes "ISO-8859-4"
name_of Iso8859_5 = codes "ISO-8859-5"
name_of Iso8859_6 = codes "ISO-8859-6"
name_of Iso8859_7 = codes "ISO-8859-7"
name_of Iso8859_8 = codes "ISO-8859-8"
name_of Iso8859_8I = codes "ISO-8859-8-I"
name_of Iso8859_10 = codes "ISO-8859-10"
name_of Iso8859_13 = codes "ISO-8859-13"
name_of Iso8859_14 = codes "ISO-8859-14"
name_of Iso8859_15 = codes "ISO-8859-15"
name_of Iso8859_16 = codes "ISO-8859-16"
name_of Koi8R = codes "KOI8-R"
name_of Koi8U = codes "KOI8-U"
name_of Macintosh = codes "macintosh"
name_of Windows874 = codes "windows-874"
name_of Windows1250 = codes "windows-1250"
name_of Windows1251 = codes "windows-1251"
name_of Windows1252 = codes "windows-1252"
name_of Windows1253 = codes "windows-1253"
name_of Windows1254 = codes "windows-1254"
name_of Windows1255 = codes "windows-1255"
name_of Windows1256 = codes "windows-1256"
name_of Windows1257 = codes "windows-1257"
name_of Windows1258 = codes "windows-1258"
name_of MacCyrillic = codes "x-mac-cyrillic"
name_of Gbk = codes "GBK"
name_of Gb18030 = codes "gb18030"
name_of Big5 = codes "Big5"
name_of EucJp = codes "EUC-JP"
name_of Iso2022Jp = codes "ISO-2022-JP"
name_of ShiftJis = codes "Shift_JIS"
name_of EucKr = codes "EUC-KR"
name_of Replacement = codes "replacement"
name_of Utf16Be = codes "UTF-16BE"
name_of Utf16Le = codes "UTF-16LE"
name_of UserDefined = codes "x-user-defined"

-- the encodings, each after its labels, of which each is before a space
unfoldable pub labels : List (List ℕ × Encoding)
labels =
    (codes "unicode-1-1-utf-8 unicode11utf8 unicode20utf8 utf-8 utf8 x-unicode20utf8 ", Utf8)
    ∷ (codes "866 cp866 csibm866 ibm866 ", Ibm866)
    ∷ (
      codes "csisolatin2 iso-8859-2 iso-ir-101 iso8859-2 iso88592 iso_8859-2 iso_8859-2:1987 "
          ++ codes "l2 latin2 ",
      Iso8859_2,
    )
    ∷ (
      codes "csisolatin3 iso-8859-3 iso-ir-109 iso8859-3 iso88593 iso_8859-3 iso_8859-3:1988 "
          ++ codes "l3 latin3 ",
      Iso8859_3,
    )
    ∷ (
      codes "csisolatin4 iso-8859-4 iso-ir-110 iso8859-4 iso88594 iso_8859-4 iso_8859-4:1988 "
          ++ codes "l4 latin4 ",
      Iso8859_4,
    )
    ∷ (
      codes "csisolatincyrillic cyrillic iso-8859-5 iso-ir-144 iso8859-5 iso88595 iso_8859-5 "
          ++ codes "iso_8859-5:1988 ",
      Iso8859_5,
    )
    ∷ (
      codes "arabic asmo-708 csiso88596e csiso88596i csisolatinarabic ecma-114 iso-8859-6 "
          ++ (codes "iso-8859-6-e iso-8859-6-i iso-ir-127 iso8859-6 iso88596 iso_8859-6 "
          ++ codes "iso_8859-6:1987 "),
      Iso8859_6,
    )
    ∷ (
      codes "csisolatingreek ecma-118 elot_928 greek greek8 iso-8859-7 iso-ir-126 iso8859-7 "
          ++ codes "iso88597 iso_8859-7 iso_8859-7:1987 sun_eu_greek ",
      Iso8859_7,
    )
    ∷ (
      codes "csiso88598e csisolatinhebrew hebrew iso-8859-8 iso-8859-8-e iso-ir-138 "
          ++ codes "iso8859-8 iso88598 iso_8859-8 iso_8859-8:1988 visual ",
      Iso8859_8,
    )
    ∷ (codes "csiso88598i iso-8859-8-i logical ", Iso8859_8I)
    ∷ (codes "csisolatin6 iso-8859-10 iso-ir-157 iso8859-10 iso885910 l6 latin6 ", Iso8859_10)
    ∷ (codes "iso-8859-13 iso8859-13 iso885913 ", Iso8859_13)
    ∷ (codes "iso-8859-14 iso8859-14 iso885914 ", Iso8859_14)
    ∷ (codes "csisolatin9 iso-8859-15 iso8859-15 iso885915 iso_8859-15 l9 ", Iso8859_15)
    ∷ (codes "iso-8859-16 ", Iso8859_16)
    ∷ (codes "cskoi8r koi koi8 koi8-r koi8_r ", Koi8R)
    ∷ (codes "koi8-ru koi8-u ", Koi8U)
    ∷ (codes "csmacintosh mac macintosh x-mac-roman ", Macintosh)
    ∷ (codes "dos-874 iso-8859-11 iso8859-11 iso885911 tis-620 windows-874 ", Windows874)
    ∷ (codes "cp1250 windows-1250 x-cp1250 ", Windows1250)
    ∷ (codes "cp1251 windows-1251 x-cp1251 ", Windows1251)
    ∷ (
      codes "ansi_x3.4-1968 ascii cp1252 cp819 csisolatin1 ibm819 iso-8859-1 iso-ir-100 "
          ++ (codes "iso8859-1 iso88591 iso_8859-1 iso_8859-1:1987 l1 latin1 us-ascii windows-1252 "
          ++ codes "x-cp1252 "),
      Windows1252,
    )
    ∷ (codes "cp1253 windows-1253 x-cp1253 ", Windows1253)
    ∷ (
      codes "cp1254 csisolatin5 iso-8859-9 iso-ir-148 iso8859-9 iso88599 iso_8859-9 "
          ++ codes "iso_8859-9:1989 l5 latin5 windows-1254 x-cp1254 ",
      Windows1254,
    )
    ∷ (codes "cp1255 windows-1255 x-cp1255 ", Windows1255)
    ∷ (codes "cp1256 windows-1256 x-cp1256 ", Windows1256)
    ∷ (codes "cp1257 windows-1257 x-cp1257 ", Windows1257)
    ∷ (codes "cp1258 windows-1258 x-cp1258 ", Windows1258)
    ∷ (codes "x-mac-cyrillic x-mac-ukrainian ", MacCyrillic)
    ∷ (codes "chinese csgb2312 csiso58gb231280 gb2312 gb_2312 gb_2312-80 gbk iso-ir-58 x-gbk ", Gbk)
    ∷ (codes "gb18030 ", Gb18030)
    ∷ (codes "big5 big5-hkscs cn-big5 csbig5 x-x-big5 ", Big5)
    ∷ (codes "cseucpkdfmtjapanese euc-jp x-euc-jp ", EucJp)
    ∷ (codes "csiso2022jp iso-2022-jp ", Iso2022Jp)
    ∷ (codes "csshiftjis ms932 ms_kanji shift-jis shift_jis sjis windows-31j x-sjis ", ShiftJis)
    ∷ (
      codes "cseuckr csksc56011987 euc-kr iso-ir-149 korean ks_c_5601-1987 ks_c_5601-1989 "
          ++ codes "ksc5601 ksc_5601 windows-949 ",
      EucKr,
    )
    ∷ (codes "csiso2022kr hz-gb-2312 iso-2022-cn iso-2022-cn-ext iso-2022-kr replacement ", Replacement)
    ∷ (codes "unicodefffe utf-16be ", Utf16Be)
    ∷ (codes "csunicode iso-10646-ucs-2 ucs-2 unicode unicodefeff utf-16 utf-16le ", Utf16Le)
    ∷ (codes "x-user-defined ", UserDefined)
    ∷ []
