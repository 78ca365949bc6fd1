pub mod NamedCriticals
